use Rattle.std.proofs.Common.{length, ap, ◌∙◌}
use Rattle.fcg_join.proofs.GraphRows.{types_many}
use Rattle.fcg_join.proofs.heads.count_types.Goals as goal

pub returns : goal.returns
returns c = c.type_count.ensures ∙ types_many c.graph.result.now ∙ ap (λ vs. length vs) c.graph.ensures
