use Rattle.std.proofs.Common.{◌≡◌, drop, length, replicate}
use Rattle.fcg_join.specs.Internal.Signatures.{set_rows}
use Rattle.fcg_join.proofs.signatures.number_rows.Given as goal

abbrev pub invariant-loop-s : goal.invariant-loop-s
invariant-loop-s l = (length l.numbers.items ≡ l.count) × (set_rows l.s (drop l.s l.rows) l.numbers.items ≡ set_rows 0 l.rows (replicate l.count 0))
