-- Numbers, each once.
use Rattle.std.specs.Prelude.{◌≡◌, ℕ, List}
use Rattle.std.specs.List.Sorted.{IsStrictlyIncreasing}
use Rattle.fcg_edges.specs.Rows.{has}

-- the same numbers, each once and rising
pub record AreDistinct (old new : List ℕ) : Type 0 where
  pub same : (b : ℕ) → has new b ≡ has old b
  pub rise : IsStrictlyIncreasing new
