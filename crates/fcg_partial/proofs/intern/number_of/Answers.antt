use Rattle.std.proofs.Common.{length, ◌∙◌}
use Rattle.fcg_partial.proofs.InternLaws.{found_place, unwrapped}
use Rattle.fcg_partial.proofs.MentionLaws.{hint_is}
use Rattle.fcg_partial.proofs.intern.number_of.Goals as goal

pub returns : goal.returns
returns c = c.unwrap_or.ensures ∙ unwrapped (length c.args.names.now) c.binary_search.result ∙ found_place c.args.names.now c.args.name.now c.binary_search.result c.requires.rises c.binary_search.ensures.bound c.binary_search.ensures.position

pub returns-then-is_text : goal.returns-then-is_text
returns-then-is_text c = hint_is c.args.names.now c.args.hint c.args.name.now c.requires.rises (c.is_text.ensures c.if-is_text.true)
