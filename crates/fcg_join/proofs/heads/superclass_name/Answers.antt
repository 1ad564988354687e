use Rattle.std.proofs.Common.{◌≡◌, List, sym, ap, subst, ◌∙◌}
use Rattle.std.specs.Prelude.{slice_get, Some}
use Rattle.fcg_views.specs.declared.view.View.{View}
use Rattle.fcg_partial.specs.Views.{graph_of}
use Rattle.fcg_join.proofs.GraphRows.{super_back, super_none}
use Rattle.fcg_join.proofs.heads.superclass_name.Goals as goal

pub returns-in-Some : goal.returns-in-Some
returns-in-Some c = λ v h. super_back c.args.part.now c.args.k v h c.in-Some.n c.name_at.result.now
    (sym c.in-Some.is ∙ ap (λ r. r.superclass) (c.load_type.ensures.row v h))
    (subst (λ (vs : List View). slice_get (graph_of vs).names c.in-Some.n ≡ Some c.name_at.result.now) c.graph.ensures c.name_at.ensures)

pub returns-in-None : goal.returns-in-None
returns-in-None c = λ v h. super_none c.args.part.now v (sym c.in-None.is ∙ ap (λ r. r.superclass) (c.load_type.ensures.row v h))
