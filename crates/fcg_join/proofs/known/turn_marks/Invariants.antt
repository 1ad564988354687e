use Rattle.std.proofs.Common.{◌≡◌, take}
use Rattle.std.specs.Prelude.{map, not}
use Rattle.fcg_join.proofs.known.turn_marks.Given as goal

abbrev pub invariant-loop-mark : goal.invariant-loop-mark
invariant-loop-mark l = l.turned.items ≡ map not (take l.mark-index l.marks)
