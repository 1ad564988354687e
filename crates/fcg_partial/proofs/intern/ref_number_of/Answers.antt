use Rattle.std.proofs.Common.{length, ◌∙◌}
use Rattle.fcg_partial.proofs.InternLaws.{found_place, unwrapped}
use Rattle.fcg_partial.proofs.MentionLaws.{hint_is}
use Rattle.fcg_partial.proofs.intern.ref_number_of.Goals as goal

pub returns : goal.returns
returns c = c.unwrap_or.ensures ∙ unwrapped (length c.args.refs.now) c.binary_search.result ∙ found_place c.args.refs.now c.args.row.now c.binary_search.result c.requires.rises c.binary_search.ensures.bound c.binary_search.ensures.position

pub returns-then-is_row : goal.returns-then-is_row
returns-then-is_row c = hint_is c.args.refs.now c.args.hint c.args.row.now c.requires.rises (c.is_row.ensures c.if-is_row.true)
