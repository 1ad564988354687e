use Rattle.std.proofs.Common.{ℕ, ◌-◌, ap, ◌∙◌, arith}
use Rattle.std.specs.Prelude.{slice_get}
use Rattle.fcg_analysis.specs.Declarations.{Placed}
use Rattle.fcg_analysis.specs.Laws.Methods.{first_node}
use Rattle.fcg_join.specs.declared.heads.TypeHead.{TypeHead}
use Rattle.fcg_join.specs.Parts.{types_of, nodes_of}
use Rattle.fcg_join.proofs.GraphRows.{item}
use Rattle.fcg_join.proofs.MethodLaws.{in_row}
use Rattle.fcg_join.proofs.joined.Joined.method_place.Goals as goal

pub overflow_sub-result : goal.overflow_sub-result
overflow_sub-result c =
    let n = item (nodes_of c.args.self.now) c.args.m.0 c.requires in
    let r = (in_row c.args.self.now c.owner-owner.result.0 c.args.m.0 n.0 (c.owner-owner.ensures.value n.0 n.1) n.1).0 in
    omega (arith, c.first_method.ensures.value)

pub overflow_cast-result : goal.overflow_cast-result
overflow_cast-result c =
    let n = item (nodes_of c.args.self.now) c.args.m.0 c.requires in
    let r = in_row c.args.self.now c.owner-owner.result.0 c.args.m.0 n.0 (c.owner-owner.ensures.value n.0 n.1) n.1 in
    let from' = r.0 in
    let until = r.1 in
    let is = c.head-head.ensures.value n.0.owner (c.owner-owner.ensures.value n.0 n.1) in
    let many = ap (λ (g : TypeHead). g.methods) is.head_is in
    let small = c.head-head.type_inv.1.1.1.1.1.1 in
    omega (arith, c.first_method.ensures.value)

pub returns : goal.returns
returns c = λ n h. (
    let o = c.owner-owner.ensures.value n h in
    let r = in_row c.args.self.now c.owner-owner.result.0 c.args.m.0 n o h in
    let is = c.head-head.ensures.value n.owner o in
    record {
      part = is.part;
      part_is = is.part_is;
      method_is = (
        is.view,
        is.view_is,
        ap (λ (k : ℕ). slice_get is.view.methods (c.args.m.0 - k)) c.first_method.ensures.value
            ∙ ap (λ (t : Placed). slice_get t.view.methods (c.args.m.0 - first_node (types_of c.args.self.now) c.owner-owner.result.0)) is.type_is ∙ r.2,
      );
    })
