use Rattle.std.proofs.Common.{◌≡◌, ℕ, slice_index_or}
use Rattle.std.specs.Prelude.{None}
use Rattle.fcg_reader.proofs.kept.nothing_kept.Given as goal

abbrev pub invariant-loop : goal.invariant-loop
invariant-loop g l = (i : ℕ) → slice_index_or l.kept.items i None ≡ None
