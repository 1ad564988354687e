-- Where types come from.
use Rattle.std.specs.Prelude.{◌≡◌, ℕ, List, Some, map, slice_get}
use Rattle.fcg_analysis.specs.Declarations.{Placed}

-- the types stand at these places of the views
abbrev pub ArePlaces : List Placed → List ℕ → List Placed → Type 0
ArePlaces views places types = map (slice_get views) places ≡ map Some types
