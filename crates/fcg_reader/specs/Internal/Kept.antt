-- Values that are kept by numbers.
use Rattle.std.specs.Prelude.{◌≡◌, ◌⊎◌, ℕ, List, slice_index_or, Option, Some, None}

-- a value may be kept for a number beside those that were before
abbrev pub IsKept : {X : Type 0} → ℕ → X → List (Option X) → List (Option X) → Type 0
IsKept {X} number value old new = (i : ℕ) (kept : X) → slice_index_or new i None ≡ Some kept → (slice_index_or old i None ≡ Some kept) ⊎ ((i ≡ number) × (kept ≡ value))
