use Rattle.fcg_join.proofs.JoinedRowLaws.{AreJoinedTo}
use Rattle.fcg_join.proofs.joined_rows.join_rows.Given as goal

abbrev pub invariant-loop-node : goal.invariant-loop-node
invariant-loop-node l = AreJoinedTo l.links l.own l.order l.joined.rows l.joined.places.items l.node-index
