use Rattle.std.proofs.Common.{ℕ, ◌+◌, ◌≤◌, length, get_or, set, sym, ap, subst, arith}
use Rattle.std.proofs.lemmas.List.{length-set}
use Rattle.fcg_order.specs.Internal.Places.{AreEntered}
use Rattle.fcg_order.proofs.PlaceSums.{node_below, slot_below, few_nodes}
use Rattle.fcg_order.proofs.PlaceLaws.{place_bound, size_some, entered_more}
use Rattle.fcg_order.proofs.places.enter_node.Goals as goal

pub slot-slot-requires : goal.slot-slot-requires
slot-slot-requires c = node_below c.args.parents.now c.args.order.now c.requires.forest c.args.i c.requires.there

pub offset_bounds-next-slot : goal.offset_bounds-next-slot
offset_bounds-next-slot c =
    let b = slot_below c.args.parents.now c.args.order.now c.requires.forest c.args.i c.requires.there in
    let e = c.slot-slot.ensures in let f = c.requires.few in omega (arith, b, e, f)

pub bounds-next-slot : goal.bounds-next-slot
bounds-next-slot c =
    let b = slot_below c.args.parents.now c.args.order.now c.requires.forest c.args.i c.requires.there in
    let e = c.slot-slot.ensures in let m = c.requires.entered.next_long in omega (arith, b, e, m)

pub bounds-sizes-node : goal.bounds-sizes-node
bounds-sizes-node c =
    let b = node_below c.args.parents.now c.args.order.now c.requires.forest c.args.i c.requires.there in
    let m = c.requires.sizes.long in omega (arith, b, m)

bounded : (c : goal.After-shared_slice_known-4-1) → get_or c.args.next.now c.slot-slot.result 0 + get_or c.args.sizes.now (get_or c.args.order.now c.args.i 0) 0 ≤ length c.args.parents.now
bounded c =
    let b = place_bound c.args.parents.now c.args.order.now c.requires.forest c.args.sizes.now c.requires.sizes c.args.enter.now c.args.next.now c.args.i c.requires.there c.requires.entered in
    let q = ap (λ s. get_or c.args.next.now s 0) c.slot-slot.ensures in
    let l = few_nodes c.args.parents.now c.args.order.now c.requires.forest in
    omega (arith, b, q, l)

pub overflow_add-next : goal.overflow_add-next
overflow_add-next c = let b = bounded c in let f = c.requires.few in omega (arith, b, f)

pub offset_bounds-next-slot-2 : goal.offset_bounds-next-slot-2
offset_bounds-next-slot-2 c =
    let b = slot_below c.args.parents.now c.args.order.now c.requires.forest c.args.i c.requires.there in
    let e = c.slot-slot.ensures in let f = c.requires.few in omega (arith, b, e, f)

pub bounds-next-slot-2 : goal.bounds-next-slot-2
bounds-next-slot-2 c =
    let b = slot_below c.args.parents.now c.args.order.now c.requires.forest c.args.i c.requires.there in
    let e = c.slot-slot.ensures in let m = c.requires.entered.next_long in omega (arith, b, e, m)

pub bounds-enter-node : goal.bounds-enter-node
bounds-enter-node c =
    let b = node_below c.args.parents.now c.args.order.now c.requires.forest c.args.i c.requires.there in
    let m = c.requires.entered.enter_long in omega (arith, b, m)

pub overflow_add-next-2 : goal.overflow_add-next-2
overflow_add-next-2 c =
    let b = bounded c in
    let s = size_some c.args.parents.now c.args.order.now c.requires.forest c.args.sizes.now c.requires.sizes c.args.enter.now c.args.next.now c.args.i c.requires.there c.requires.entered in
    let f = c.requires.few in omega (arith, b, f, s)

pub bounds-next-node : goal.bounds-next-node
bounds-next-node c =
    let b = node_below c.args.parents.now c.args.order.now c.requires.forest c.args.i c.requires.there in
    let m = c.requires.entered.next_long in
    let w = length-set c.args.next.now c.slot-slot.result (get_or c.args.next.now c.slot-slot.result 0 + get_or c.args.sizes.now (get_or c.args.order.now c.args.i 0) 0) in
    omega (arith, b, m, w)

pub returns : goal.returns
returns c =
    subst (λ (s : ℕ). AreEntered c.args.parents.now c.args.order.now c.args.sizes.now (set c.args.enter.now (get_or c.args.order.now c.args.i 0) (get_or c.args.next.now s 0))
    (set (set c.args.next.now s (get_or c.args.next.now s 0 + get_or c.args.sizes.now (get_or c.args.order.now c.args.i 0) 0)) (get_or c.args.order.now c.args.i 0) (get_or c.args.next.now s 0 + 1)) (c.args.i + 1)) (sym c.slot-slot.ensures)
    (entered_more c.args.parents.now c.args.order.now c.requires.forest c.args.sizes.now c.requires.sizes c.args.enter.now c.args.next.now c.args.i c.requires.there c.requires.entered)
