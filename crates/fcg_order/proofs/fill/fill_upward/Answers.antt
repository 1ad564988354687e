use Rattle.std.proofs.Common.{◌≡◌, ℕ, length, subst, arith}
use Rattle.fcg_order.proofs.FillLaws.{IsFilledTo, order_below, filled_more, filled_all}
use Rattle.fcg_order.proofs.fill.fill_upward.Goals as goal

pub loop-node-preserved : goal.loop-node-preserved
loop-node-preserved c =
    filled_more c.args.links.now c.args.order.now c.args.marks.now c.requires.order c.loop-node.marks c.loop-node.node-index c.has_or_meets_mark-marked.result
    c.loop-node-test.true c.loop-node.invariant c.has_or_meets_mark-marked.ensures

pub returns : goal.returns
returns c =
    let e : c.loop-node.node-index ≡ length c.args.order.now = (let a = c.loop-node-test.false in let b = c.loop-node.auto.node-index-end in omega arith) in
    filled_all c.args.links.now c.args.order.now c.args.marks.now c.requires.order c.loop-node.marks
    (subst (λ (i : ℕ). IsFilledTo c.args.links.now c.args.order.now c.args.marks.now c.loop-node.marks i) e c.loop-node.invariant)

pub has_or_meets_mark-marked-requires-clause-node : goal.has_or_meets_mark-marked-requires-clause-node
has_or_meets_mark-marked-requires-clause-node c = order_below c.args.links.now c.args.order.now c.args.marks.now c.requires.order c.loop-node.node-index c.loop-node-test.true

pub bounds-marks-node : goal.bounds-marks-node
bounds-marks-node c =
    let b = order_below c.args.links.now c.args.order.now c.args.marks.now c.requires.order c.loop-node.node-index c.loop-node-test.true in
    let m = c.loop-node.invariant.long in omega arith
