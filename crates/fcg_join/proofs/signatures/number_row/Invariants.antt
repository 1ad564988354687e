use Rattle.std.proofs.Common.{◌≡◌, drop, length}
use Rattle.fcg_join.specs.Internal.Signatures.{set_all}
use Rattle.fcg_join.proofs.signatures.number_row.Given as goal

abbrev pub invariant-loop-place : goal.invariant-loop-place
invariant-loop-place l = (length l.numbers.items ≡ length l.fn.numbers.items) × (set_all l.s (drop l.place-index l.row) l.numbers.items ≡ set_all l.s l.row l.fn.numbers.items)
