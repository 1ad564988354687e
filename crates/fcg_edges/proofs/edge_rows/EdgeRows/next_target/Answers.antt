use Rattle.std.proofs.Common.{length, ◌<◌, ℕ, List, get_or, take, subst}
use Rattle.std.specs.Prelude.{◌||◌}
use Rattle.std.proofs.lemmas.List.Elements.{All-get_or}
use Rattle.fcg_order.specs.Links.{row}
use Rattle.fcg_edges.specs.Rows.{has, any_has}
use Rattle.fcg_edges.specs.Internal.Counts.{IsNext}
use Rattle.fcg_edges.proofs.NextNumbers.{next_with_list, next_with_all}
use Rattle.fcg_edges.proofs.edge_rows.EdgeRows.next_target.Goals as goal

pub first_above-next-requires : goal.first_above-next-requires
first_above-next-requires c = c.targets.ensures.list.rise

pub list-requires : goal.list-requires
list-requires c = All-get_or (λ k. k < length c.args.self.now.lists) c.uses-l-items.result.now c.loop-l.l-index 0 c.loop-l-test.true c.uses-l-items.ensures.there

pub first_above-requires : goal.first_above-requires
first_above-requires c = c.list.ensures.list.rise

pub loop-l-preserved : goal.loop-l-preserved
loop-l-preserved c =
    let r = c.args.self.now in
    let us = c.uses-l-items.result.now in
    let i = c.loop-l.l-index in
    let one = subst (λ (ks : List ℕ). IsNext (has ks) c.args.b c.first_above.result) c.list.ensures.value c.first_above.ensures in
    next_with_list (row r.targets c.args.a) us r.lists i c.args.b c.lesser-next.result c.loop-l-test.true
    (c.lesser-next.ensures (λ k. has (row r.targets c.args.a) k || any_has r.lists (take i us) k) (has (row r.lists (get_or us i 0))) c.args.b c.loop-l.invariant one)

pub returns : goal.returns
returns c = next_with_all c.args.self.now c.args.a c.loop-l.l-index c.args.b c.uses-l-items.result.now c.loop-l.next c.uses-l-items.ensures.value c.loop-l-test.false c.loop-l.invariant
