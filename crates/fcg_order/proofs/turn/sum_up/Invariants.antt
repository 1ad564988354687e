use Rattle.std.proofs.Common.{◌≡◌, get_or}
use Rattle.fcg_order.specs.Internal.Turn.{sum_first, AreSums}
use Rattle.fcg_order.proofs.turn.sum_up.Given as goal

abbrev pub invariant-loop-n : goal.invariant-loop-n
invariant-loop-n l = record {
  sum : l.sum ≡ sum_first (λ m. get_or l.initial.counts m 0) l.n;
  sums : AreSums l.initial.counts l.counts l.n;
}
