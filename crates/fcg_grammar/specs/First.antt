-- The first item that breaks its rule, said of the items one by one.
use Rattle.std.specs.Prelude.{◌≡◌, ℕ, ◌+◌, ◌<◌, List, length, slice_index_or, Result, Ok, Err}

-- the item at a place is the first that breaks its rule, and so f
pub record BreaksFirst {X E : Type 0} (rule : ℕ → X → Result (Unit {0}) E) (k : ℕ) (xs : List X) (f : E) : Type 0 where
  pub place : ℕ
  pub within : place < length xs
  pub broken : (d : X) → rule (place + k) (slice_index_or xs place d) ≡ Err f
  pub before : (j : ℕ) (d : X) → j < place → rule (j + k) (slice_index_or xs j d) ≡ Ok tt

-- each item keeps its rule
abbrev pub AllKept : {X E : Type 0} → (ℕ → X → Result (Unit {0}) E) → ℕ → List X → Type 0
AllKept {X} rule k xs = (i : ℕ) (d : X) → i < length xs → rule (i + k) (slice_index_or xs i d) ≡ Ok tt
