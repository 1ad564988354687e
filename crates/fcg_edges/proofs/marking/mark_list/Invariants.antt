use Rattle.fcg_edges.proofs.MarkLaws.{AreMarkedTo}
use Rattle.fcg_edges.proofs.marking.mark_list.Given as goal

abbrev pub invariant-loop-b : goal.invariant-loop-b
invariant-loop-b l = AreMarkedTo l.turn l.list l.fn.marks l.marks l.fresh l.b-index
