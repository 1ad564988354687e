use Rattle.std.proofs.Common.{◌∙◌}
use Rattle.fcg_reader.proofs.NameLemmas.{get_or-none}
use Rattle.fcg_reader.proofs.kept.nothing_kept.Goals as goal

pub loop-preserved : goal.loop-preserved
loop-preserved g c = rw c.in_ok-push.ensures.items (λ i. get_or-none c.loop.kept.items i ∙ c.loop.invariant i)
