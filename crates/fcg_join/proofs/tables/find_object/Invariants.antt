use Rattle.std.proofs.Common.{◌≡◌, ℕ, ◌<◌}
use Rattle.std.specs.Prelude.{false}
use Rattle.fcg_join.specs.Internal.Tables.{is_object_class}
use Rattle.fcg_join.specs.Internal.TypeNumbers.{head_at}
use Rattle.fcg_join.proofs.tables.find_object.Given as goal

abbrev pub invariant-loop-y : goal.invariant-loop-y
invariant-loop-y l = (k : ℕ) → k < l.y → is_object_class (head_at l.heads k) ≡ false
