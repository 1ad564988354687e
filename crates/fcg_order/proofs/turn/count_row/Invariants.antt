use Rattle.std.proofs.Common.{◌≡◌, length}
use Rattle.fcg_order.specs.Internal.Turn.{turned_to, AreCounted}
use Rattle.fcg_order.proofs.turn.count_row.Given as goal

abbrev pub invariant-loop-number : goal.invariant-loop-number
invariant-loop-number l = record {
  long : length l.counts ≡ length l.initial.counts;
  counted : AreCounted (turned_to l.rows l.x l.number-index) l.counts;
}
