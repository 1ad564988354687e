use Rattle.std.proofs.Common.{◌≡◌, ◌+◌, drop}
use Rattle.fcg_book.specs.Opening.{in_sequence}
use Rattle.fcg_book.proofs.opening.check_sequence.Given as goal

abbrev pub invariant-loop-row : goal.invariant-loop-row
invariant-loop-row l = (l.last ≡ l.row-index) × (in_sequence 1 l.fn.records ≡ in_sequence (l.last + 1) (drop l.row-index l.fn.records))
