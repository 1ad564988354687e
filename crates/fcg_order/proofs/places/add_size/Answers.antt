use Rattle.std.proofs.Common.{ℕ, ◌+◌, ◌≤◌, length, get_or, set, sym, subst, arith}
use Rattle.fcg_order.specs.Internal.Places.{AreSizes}
use Rattle.fcg_order.proofs.PlaceSums.{node_below, sum_small, sizes_more, slot_below, few_nodes}
use Rattle.fcg_order.proofs.places.add_size.Goals as goal

pub bounds-sizes-node : goal.bounds-sizes-node
bounds-sizes-node c =
    let b = node_below c.args.parents.now c.args.order.now c.requires.forest c.args.i c.requires.there in
    let m = c.requires.sizes.long in omega (arith, b, m)

pub slot-requires : goal.slot-requires
slot-requires c = node_below c.args.parents.now c.args.order.now c.requires.forest c.args.i c.requires.there

pub bounds-sizes-slot : goal.bounds-sizes-slot
bounds-sizes-slot c =
    let b = slot_below c.args.parents.now c.args.order.now c.requires.forest c.args.i c.requires.there in
    let m = c.requires.sizes.long in let e = c.slot.ensures in omega (arith, b, m, e)

pub bounds-sizes-slot-2 : goal.bounds-sizes-slot-2
bounds-sizes-slot-2 c =
    let b = slot_below c.args.parents.now c.args.order.now c.requires.forest c.args.i c.requires.there in
    let m = c.requires.sizes.long in let e = c.slot.ensures in omega (arith, b, m, e)

pub offset_bounds-sizes-slot : goal.offset_bounds-sizes-slot
offset_bounds-sizes-slot c =
    let b = slot_below c.args.parents.now c.args.order.now c.requires.forest c.args.i c.requires.there in
    let e = c.slot.ensures in let f = c.requires.few in omega (arith, b, e, f)

pub overflow_add-sizes : goal.overflow_add-sizes
overflow_add-sizes c =
    let b = sum_small c.args.parents.now c.args.order.now c.requires.forest c.args.sizes.now c.args.i c.requires.there c.requires.sizes in
    let w = subst (λ (s : ℕ). get_or c.args.sizes.now s 0 + get_or c.args.sizes.now (get_or c.args.order.now c.args.i 0) 0 ≤ length c.args.order.now) (sym c.slot.ensures) b in
    let l = few_nodes c.args.parents.now c.args.order.now c.requires.forest in
    let f = c.requires.few in omega (arith, w, l, f)

pub returns : goal.returns
returns c =
    subst (λ (s : ℕ). AreSizes c.args.parents.now c.args.order.now (set c.args.sizes.now s (get_or c.args.sizes.now s 0 + get_or c.args.sizes.now (get_or c.args.order.now c.args.i 0) 0)) c.args.i) (sym c.slot.ensures)
    (sizes_more c.args.parents.now c.args.order.now c.requires.forest c.args.sizes.now c.args.i c.requires.there c.requires.sizes)
