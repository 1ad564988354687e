use Rattle.std.proofs.Common.{ℕ, ◌-◌, ◌<◌, List, length, sym, ap, subst, ◌∙◌, arith}
use Rattle.std.specs.Prelude.{All, slice_get}
use Rattle.std.proofs.lemmas.Option.{slice_get_within}
use Rattle.fcg_views.specs.Valid.{IsValid}
use Rattle.fcg_partial.specs.Parts.{PartShown}
use Rattle.fcg_analysis.proofs.General.Places.{some_at}
use Rattle.fcg_join.specs.Parts.{nodes_of}
use Rattle.fcg_join.proofs.MethodLaws.{in_row}
use Rattle.fcg_stitch.proofs.PlaceLaws.{part_there, view_there, valid_at}
use Rattle.fcg_stitch.proofs.place.find_place.Goals as goal

pub bounds-as_slice-origin : goal.bounds-as_slice-origin
bounds-as_slice-origin c =
    let n = some_at (nodes_of c.args.joined.now) c.args.m.0 c.requires in
    let o = c.origin-origin.ensures n.0.owner (c.owner.ensures.value n.0 n.1) in
    let e = c.as_slice.ensures ∙ c.parts.ensures in
    subst (λ (ps : List PartShown). c.origin-origin.result.part < length ps) (sym e) (slice_get_within c.args.joined.now c.origin-origin.result.part o.part o.part_is)

pub overflow_sub-result : goal.overflow_sub-result
overflow_sub-result c =
    let n = some_at (nodes_of c.args.joined.now) c.args.m.0 c.requires in
    let owner = c.owner.ensures.value n.0 n.1 in
    let r = (in_row c.args.joined.now c.owner.result.0 c.args.m.0 n.0 owner n.1).0 in
    omega (arith, (c.origin-origin.ensures n.0.owner owner).first)

pub overflow_cast-result : goal.overflow_cast-result
overflow_cast-result c =
    let parts = c.args.joined.now in
    let n = some_at (nodes_of parts) c.args.m.0 c.requires in
    let owner = c.owner.ensures.value n.0 n.1 in
    let r = in_row parts c.owner.result.0 c.args.m.0 n.0 owner n.1 in
    let from' = r.0 in
    let until = r.1 in
    let o = c.origin-origin.ensures n.0.owner owner in
    let e = c.as_slice.ensures ∙ c.parts.ensures in
    let there = ap (λ (ps : List PartShown). slice_get ps c.origin-origin.result.part) e ∙ o.part_is in
    let p = part_there c.as_slice.result.now c.origin-origin.result.part c.index-as_slice-origin.result o.part there c.index-as_slice-origin.is in
    let valid = subst (λ (q : PartShown). All IsValid q.views) p c.tell_part.ensures in
    let few = (valid_at o.part.views c.origin-origin.result.place n.0.owner.view valid (view_there o.part c.origin-origin.result.place n.0.owner o.type_is)).methods.0 in
    omega (arith, o.first)

pub returns : goal.returns
returns c = λ n h. (
    let parts = c.args.joined.now in
    let owner = c.owner.ensures.value n h in
    let r = in_row parts c.owner.result.0 c.args.m.0 n owner h in
    let o = c.origin-origin.ensures n.owner owner in
    record {
      part = o.part;
      part_is = o.part_is;
      view = n.owner.view;
      view_is = view_there o.part c.origin-origin.result.place n.owner o.type_is;
      method_is = ap (λ (k : ℕ). slice_get n.owner.view.methods (c.args.m.0 - k)) o.first ∙ r.2;
    })
