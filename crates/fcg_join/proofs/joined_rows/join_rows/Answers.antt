use Rattle.std.proofs.Common.{◌≡◌, ℕ, ◌+◌, ◌<◌, List, [], ◌∷◌, ◌++◌, length, get_or, sym, subst, arith}
use Rattle.std.specs.Prelude.{All, flat_map}
use Rattle.fcg_order.specs.Links.{row}
use Rattle.fcg_join.specs.Internal.Mentions.{row_of, AreSorted}
use Rattle.fcg_join.proofs.JoinedRowLaws.{AreJoinedTo, is_node, few_rows, next_is_node, linked_have_rows, next, joined_all}
use Rattle.fcg_join.proofs.joined_rows.join_rows.Goals as goal

pub row-requires : goal.row-requires
row-requires c = (let a = is_node c.args.links.now c.args.own.now c.args.order.now c.requires.order c.requires.acyclic c.loop-node.node-index c.loop-node-test.true in let b = c.requires.long in omega arith)

pub row-requires-in-loop-node : goal.row-requires-in-loop-node
row-requires-in-loop-node c = is_node c.args.links.now c.args.own.now c.args.order.now c.requires.order c.requires.acyclic c.loop-node.node-index c.loop-node-test.true

pub fill_row-requires : goal.fill_row-requires
fill_row-requires c =
    subst (λ (ns : List ℕ). All (λ y. (y < length c.loop-node.joined.places.items) × (get_or c.loop-node.joined.places.items y 0 < length c.loop-node.joined.rows)) ns) (sym c.row-in-loop-node.ensures)
    (linked_have_rows c.args.links.now c.args.own.now c.args.order.now c.requires.order c.requires.acyclic c.loop-node.joined.rows c.loop-node.joined.places.items c.loop-node.node-index c.loop-node-test.true c.loop-node.invariant)

pub add-requires-clause-node : goal.add-requires-clause-node
add-requires-clause-node c = next_is_node c.args.links.now c.args.own.now c.args.order.now c.requires.order c.requires.acyclic c.loop-node.joined.rows c.loop-node.joined.places.items c.loop-node.node-index c.loop-node-test.true c.loop-node.invariant

pub add-requires-clause-few : goal.add-requires-clause-few
add-requires-clause-few c = (let a = few_rows c.args.links.now c.args.own.now c.args.order.now c.requires.order c.requires.acyclic c.loop-node.joined.rows c.loop-node.joined.places.items c.loop-node.node-index c.loop-node-test.true c.loop-node.invariant in let b = c.requires.few in omega arith)

pub loop-node-preserved : goal.loop-node-preserved
loop-node-preserved c =
    let links = c.args.links.now in
    let own = c.args.own.now in
    let order = c.args.order.now in
    let i = c.loop-node.node-index in
    let rows = c.loop-node.joined.rows in
    let places = c.loop-node.joined.places.items in
    let inherited : List ℕ → List ℕ = flat_map (row_of c.loop-node.joined) in
    let sorted : AreSorted (row own (get_or order i 0) ++ inherited (row links (get_or order i 0))) c.deref.result.now =
    subst (AreSorted (row own (get_or order i 0) ++ inherited (row links (get_or order i 0)))) (sym c.deref.ensures.value)
    (subst (λ (ns : List ℕ). AreSorted (row own (get_or order i 0) ++ inherited ns) c.fill_row.new.row.items) c.row-in-loop-node.ensures
    (subst (λ (ns : List ℕ). AreSorted (ns ++ inherited c.row-in-loop-node.result.now) c.fill_row.new.row.items) c.row.ensures c.in_ok-fill_row.ensures)) in
    subst (λ (v : List (List ℕ)). AreJoinedTo links own order v c.add.new.self.places.items (i + 1)) (sym c.in_ok-add.ensures.rows)
    (subst (λ (v : List ℕ). AreJoinedTo links own order (rows ++ c.deref.result.now ∷ []) v (i + 1)) (sym c.in_ok-add.ensures.places)
    (next links own order c.requires.order c.requires.acyclic rows places i c.loop-node-test.true c.loop-node.invariant c.deref.result.now sorted))

pub returns : goal.returns
returns c =
    let order = c.args.order.now in
    let i = c.loop-node.node-index in
    let e : i ≡ length order = (let a = c.loop-node-test.false in let b = c.loop-node.auto.node-index-end in omega arith) in
    joined_all c.args.links.now c.args.own.now order c.requires.order c.requires.acyclic c.loop-node.joined
    (subst (AreJoinedTo c.args.links.now c.args.own.now order c.loop-node.joined.rows c.loop-node.joined.places.items) e c.loop-node.invariant)
