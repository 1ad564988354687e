use Rattle.std.proofs.Common.{◌≡◌, ◌≤◌, ◌+◌, length}
use Rattle.fcg_order.specs.Internal.Turn.{turned_from, AreCounted}
use Rattle.fcg_order.proofs.turn.count_rows.Given as goal

abbrev pub invariant-loop-x : goal.invariant-loop-x
invariant-loop-x l = record {
  long : length l.counts.items ≡ l.count + 1;
  within : l.x ≤ length l.rows;
  counted : AreCounted (turned_from l.rows l.x) l.counts.items;
}

abbrev pub decreases-loop-x : goal.decreases-loop-x
decreases-loop-x l = l.x
