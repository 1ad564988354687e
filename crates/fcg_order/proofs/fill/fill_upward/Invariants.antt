use Rattle.fcg_order.proofs.FillLaws.{IsFilledTo}
use Rattle.fcg_order.proofs.fill.fill_upward.Given as goal

abbrev pub invariant-loop-node : goal.invariant-loop-node
invariant-loop-node l = IsFilledTo l.links l.order l.initial.marks l.marks l.node-index
