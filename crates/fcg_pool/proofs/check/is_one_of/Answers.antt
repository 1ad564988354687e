use Rattle.std.proofs.Common.{◌∙◌}
use Rattle.fcg_pool.proofs.TagLemmas.{any_is}
use Rattle.fcg_pool.proofs.check.is_one_of.Goals as goal

pub returns : goal.returns
returns c = c.contains.ensures.value ∙ any_is c.args.tags.now c.args.tag
