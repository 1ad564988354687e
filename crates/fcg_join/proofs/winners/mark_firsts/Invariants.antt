use Rattle.fcg_join.proofs.SeenNumbers.{AreSeen}
use Rattle.fcg_join.proofs.winners.mark_firsts.Given as goal

abbrev pub invariant-loop-number : goal.invariant-loop-number
invariant-loop-number l = AreSeen l.numbers l.seen.items l.marks.items l.count l.number-index
