-- Rows of mentions by numbers.
use Rattle.std.specs.Prelude.{◌≡◌, ◌↔◌, ℕ, ◌<◌, List, [], ◌∷◌, ◌++◌, Option, flat_map, is_none, length, option_to_list, slice_index_or, Contains, if◌then◌else◌}
use Rattle.std.specs.List.Sorted.{IsStrictlyIncreasing}
use Rattle.fcg_analysis.specs.NamesAndFlags.{has}
use Rattle.fcg_order.specs.Links.{row, HasLink}
use Rattle.fcg_analysis.specs.Declarations.{Placed}
use Rattle.fcg_join.specs.declared.heads.TypeHead.{TypeHead}
use Rattle.fcg_join.specs.declared.joined_rows.JoinedRows.{JoinedRows}
use Rattle.fcg_join.specs.Internal.TypeNumbers.{type_numbered}
use Rattle.fcg_join.specs.TypeTables.{AreUpwardRows, AreJoined, mentions_at}

-- the number of a name, where no known type has the name
abbrev pub absent_number : List (Option ℕ) → ℕ → List ℕ
absent_number by_name n = if is_none (type_numbered by_name n) then n ∷ [] else []

-- the numbers of names that a type mentions itself, by the numbers of its interfaces' names
abbrev pub own_numbered : List (Option ℕ) → TypeHead → List ℕ → List ℕ
own_numbered by_name h interfaces =
    (if has 0x0200 h.flags then h.name ∷ [] else [])
    ++ (flat_map (absent_number by_name) interfaces ++ flat_map (absent_number by_name) (option_to_list h.superclass))

-- the row of a node
abbrev pub row_of : JoinedRows → ℕ → List ℕ
row_of r x = row r.rows (slice_index_or r.places.items x 0)

-- the node has a row
abbrev pub HasRow : JoinedRows → ℕ → Type 0
HasRow r x = (x < length r.places.items) × (slice_index_or r.places.items x 0 < length r.rows)

-- the same numbers, each once and rising
pub record AreSorted (old new : List ℕ) : Type 0 where
  pub same : (n : ℕ) → Contains new n ↔ Contains old n
  pub rise : IsStrictlyIncreasing new

-- each node has a row, which rises, and has its own numbers and those of the rows to which the node links
pub record AreJoinedRows (links own : List (List ℕ)) (r : JoinedRows) : Type 0 where
  pub long : length r.places.items ≡ length links
  pub there : (x : ℕ) → x < length links → HasRow r x
  pub joined : AreJoined links (row own) (row_of r)
  pub rise : (x : ℕ) → x < length links → IsStrictlyIncreasing (row_of r x)

-- each type has a row, which rises, and has the numbers of the names that the type or one above it mentions
pub record AreMentions (names : List (List ℕ)) (types : List Placed) (r : JoinedRows) : Type 0 where
  pub long : length r.places.items ≡ length types
  pub there : (x : ℕ) → x < length types → HasRow r x
  pub upward : AreUpwardRows types (mentions_at names types) (row_of r)
  pub rise : (x : ℕ) → x < length types → IsStrictlyIncreasing (row_of r x)

-- each number below the count has a row, which rises and has the nodes whose rows have the number
pub record AreTurnedRows (r : JoinedRows) (count : ℕ) (turned : List (List ℕ)) : Type 0 where
  pub long : length turned ≡ count
  pub each : (n x : ℕ) → n < count → HasLink turned n x ↔ ((x < length r.places.items) × Contains (row_of r x) n)
  pub rise : (n : ℕ) → n < count → IsStrictlyIncreasing (row turned n)
