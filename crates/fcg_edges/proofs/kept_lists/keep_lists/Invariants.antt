use Rattle.fcg_edges.proofs.KeptLaws.{AreKeptTo}
use Rattle.fcg_edges.proofs.kept_lists.keep_lists.Given as goal

abbrev pub invariant-loop-l : goal.invariant-loop-l
invariant-loop-l l = AreKeptTo l.rows.lists l.turn l.uses l.fn.marks l.marks l.lists.items l.overlap l.l-index
