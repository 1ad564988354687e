-- The tables of the names of some parts, by numbers.
use Rattle.std.specs.Prelude.{◌≡◌, ℕ, ◌<◌, List, [], length, map, Some, All, slice_get, slice_index_or}
use Rattle.std.specs.List.{range_with_len}
use Rattle.fcg_grammar.specs.Table.{place}
use Rattle.fcg_partial.specs.Parts.{PartShown}
use Rattle.fcg_join.specs.SetNames.{part_names, set_names}
use Rattle.fcg_join.specs.declared.part_names.NamePlace.{NamePlace}
use Rattle.fcg_join.specs.declared.part_names.SetNames.{SetNames}

-- of each part the numbers of its names
abbrev pub names_by_number : List (List ℕ) → List PartShown → List (List ℕ)
names_by_number names parts = map (λ p. map (place names) (part_names p)) parts

-- ---- where names stand

-- those of the names of a part
abbrev pub places_in : ℕ → PartShown → List NamePlace
places_in part p = map (λ k. record { part = part; number = k }) (range_with_len 0 (length (part_names p)))

-- a name stands there
pub record IsNamePlace (parts : List PartShown) (at : NamePlace) : Type 0 where
  pub part : PartShown
  pub part_is : slice_get parts at.part ≡ Some part
  pub within : at.number < length (part_names part)

abbrev pub no_part : PartShown
no_part = record { coordinate = []; views = [] }

-- the name that stands there
abbrev pub name_there : List PartShown → NamePlace → List ℕ
name_there parts at = slice_index_or (part_names (slice_index_or parts at.part no_part)) at.number []

abbrev pub no_place : NamePlace
no_place = record { part = 0; number = 0 }

-- Each part's names have their numbers, and each number has a place where its name stands.
pub record AreSetNames (parts : List PartShown) (names : SetNames) : Type 0 where
  pub numbers : names.numbers ≡ names_by_number (set_names parts) parts
  pub there : All (IsNamePlace parts) names.places.items
  pub names_are : map (name_there parts) names.places.items ≡ set_names parts
