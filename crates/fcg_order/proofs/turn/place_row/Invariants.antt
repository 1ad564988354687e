use Rattle.std.proofs.Common.{◌≡◌, length}
use Rattle.fcg_order.specs.Internal.Turn.{turned_to, sizes_of, ArePlaced}
use Rattle.fcg_order.proofs.turn.place_row.Given as goal

abbrev pub invariant-loop-number : goal.invariant-loop-number
invariant-loop-number l = record {
  long : length l.starts ≡ length l.initial.starts;
  placed : ArePlaced (sizes_of l.rows) (turned_to l.rows l.x l.number-index) l.starts l.targets;
}
