use Rattle.std.proofs.Common.{arith}
use Rattle.fcg_order.specs.Internal.Search.{state_of}
use Rattle.fcg_order.proofs.SearchLaws.{visited_more, circles_are, order_is}
use Rattle.fcg_order.proofs.order.find_order.Goals as goal

pub loop-node-preserved : goal.loop-node-preserved
loop-node-preserved c =
    let w = c.in_ok-visit.ensures in
    record {
      state = w.state;
      ended = w.ended;
      visited = λ v l e. visited_more (state_of c.loop-node.search) (state_of c.visit.new.self) c.loop-node.node v c.loop-node.invariant.visited w.keeps w.visited l e;
    }

pub returns-clause-circles : goal.returns-clause-circles
returns-clause-circles c =
    circles_are c.args.links.now (state_of c.loop-node.search) c.loop-node.invariant.state c.loop-node.invariant.ended
    (λ v l e. c.loop-node.invariant.visited v (let h = c.loop-node-test.false in let n = c.len-node-end.ensures in omega arith) e)

pub returns-clause-order : goal.returns-clause-order
returns-clause-order c =
    order_is c.args.links.now (state_of c.loop-node.search) c.loop-node.invariant.state c.loop-node.invariant.ended
    (λ v l e. c.loop-node.invariant.visited v (let h = c.loop-node-test.false in let n = c.len-node-end.ensures in omega arith) e)
