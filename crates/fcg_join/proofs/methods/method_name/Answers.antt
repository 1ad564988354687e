use Rattle.std.proofs.Common.{◌≡◌, List, subst}
use Rattle.std.specs.Prelude.{slice_get, Some}
use Rattle.fcg_views.specs.declared.view.View.{View}
use Rattle.fcg_partial.specs.Views.{graph_of}
use Rattle.fcg_join.proofs.MethodRows.{name_is_back}
use Rattle.fcg_join.proofs.methods.method_name.Goals as goal

pub returns : goal.returns
returns c = λ m h. name_is_back c.args.part.now c.args.k c.args.j m h c.load_method.result c.name_at.result.now (c.load_method.ensures.row m h)
    (subst (λ (vs : List View). slice_get (graph_of vs).names c.load_method.result.name ≡ Some c.name_at.result.now) c.graph.ensures c.name_at.ensures)
