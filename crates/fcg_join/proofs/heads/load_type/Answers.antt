use Rattle.std.proofs.Common.{◌≡◌, ℕ, ◌<◌, List, length, sym, ap, subst, ◌∙◌}
use Rattle.fcg_views.specs.declared.view.View.{View}
use Rattle.fcg_partial.specs.Graph.{StoredType}
use Rattle.fcg_partial.specs.Views.{graph_of}
use Rattle.fcg_partial.specs.Accessors.{HasType, row_of_type}
use Rattle.fcg_join.proofs.GraphRows.{types_many, row_is}
use Rattle.fcg_join.proofs.heads.load_type.Goals as goal

pub type_at-requires : goal.type_at-requires
type_at-requires c = subst (λ (n : ℕ). c.args.k < n) (sym (types_many c.graph.result.now ∙ ap (λ vs. length vs) c.graph.ensures)) c.requires

pub returns-clause-row : goal.returns-clause-row
returns-clause-row c = λ v h. row_is c.args.part.now c.args.k v h c.type_at.result
    (subst (λ (vs : List View). (t : StoredType) → HasType (graph_of vs) c.args.k t → c.type_at.result ≡ row_of_type t) c.graph.ensures c.type_at.ensures.row)
