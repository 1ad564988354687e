use Rattle.std.proofs.Common.{◌≡◌, ◌≤◌, true, false, length, refl, sym, ◌∙◌, arith}
use Rattle.fcg_order.proofs.WithinLaws.{within_more, within_all, row_all}
use Rattle.fcg_order.proofs.links.Links.is_within.Goals as goal

pub returns-then-not-are_below : goal.returns-then-not-are_below
returns-then-not-are_below c = (
  (λ t. absurd (let e : false ≡ true = t in cc)),
  (λ w. sym c.if-not-are_below.true ∙ c.are_below.ensures.1 (row_all c.args.self.now c.loop-node.node c.len-count.result c.row.result.now c.row.ensures c.len-count.ensures w)),
)

pub loop-node-preserved : goal.loop-node-preserved
loop-node-preserved c =
    within_more c.args.self.now c.loop-node.node c.len-count.result c.row.result.now c.row.ensures c.len-count.ensures
    (c.are_below.ensures.0 c.if-not-are_below.false) c.loop-node.invariant

pub returns : goal.returns
returns c =
    let all : length c.args.self.now ≤ c.loop-node.node = (let a = c.loop-node-test.false in let b = c.len-count.ensures in omega arith) in
    ((λ t. within_all c.args.self.now c.loop-node.node all c.loop-node.invariant), (λ w. refl))
