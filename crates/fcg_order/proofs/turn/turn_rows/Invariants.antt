use Rattle.std.proofs.Common.{◌≡◌, ◌≤◌, ◌+◌, length}
use Rattle.fcg_order.specs.Internal.Turn.{turned_from, sizes_of, ArePlaced}
use Rattle.fcg_order.proofs.turn.turn_rows.Given as goal

abbrev pub invariant-loop-x : goal.invariant-loop-x
invariant-loop-x l = record {
  long : length l.starts.items ≡ l.count + 1;
  within : l.x ≤ length l.rows;
  placed : ArePlaced (sizes_of l.rows) (turned_from l.rows l.x) l.starts.items l.targets.items;
}

abbrev pub decreases-loop-x : goal.decreases-loop-x
decreases-loop-x l = l.x
