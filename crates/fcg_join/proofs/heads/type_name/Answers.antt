use Rattle.std.proofs.Common.{◌≡◌, ℕ, List, ap, subst, inl, refl}
use Rattle.std.specs.Prelude.{slice_get, Some}
use Rattle.fcg_views.specs.declared.view.View.{View}
use Rattle.fcg_grammar.specs.Table.{place}
use Rattle.fcg_partial.specs.Views.{graph_of}
use Rattle.fcg_join.specs.SetNames.{part_names}
use Rattle.fcg_join.proofs.GraphRows.{named, name_back}
use Rattle.fcg_join.proofs.heads.type_name.Goals as goal

pub returns : goal.returns
returns c = λ v h. (
    let names = part_names c.args.part.now in
    let e : slice_get names c.load_type.result.name ≡ Some c.name_at.result.now = subst (λ (vs : List View). slice_get (graph_of vs).names c.load_type.result.name ≡ Some c.name_at.result.now) c.graph.ensures c.name_at.ensures in
    let n : c.load_type.result.name ≡ place names v.name = ap (λ r. r.name) (c.load_type.ensures.row v h) in
    name_back names v.name c.name_at.result.now (named c.args.part.now c.args.k v h v.name (inl refl)) (subst (λ (k : ℕ). slice_get names k ≡ Some c.name_at.result.now) n e))
