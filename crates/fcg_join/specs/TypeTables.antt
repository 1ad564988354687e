-- Tables that have a mark for each type, or a row of numbers, and are filled along the links.
use Rattle.std.specs.Prelude.{◌≡◌, ◌⊎◌, ◌↔◌, ℕ, ◌<◌, List, [], ◌∷◌, ◌++◌, Contains, Bool, true, false, not, ◌&&◌, ◌||◌, Some, filter, map, length, nat_lt, is_none, if◌then◌else◌}
use Rattle.std.specs.List.{list_any}
use Rattle.fcg_grammar.specs.Table.{Rises, place}
use Rattle.fcg_analysis.specs.NamesAndFlags.{contains}
use Rattle.fcg_analysis.specs.Declarations.{Placed, is_named, is_type, is_class, is_interface, names_of}
use Rattle.fcg_analysis.specs.Types.{links, above, superclass, type_named}
use Rattle.fcg_order.specs.Links.{HasLink}
use Rattle.fcg_join.specs.Names.{text_at}
use Rattle.fcg_join.specs.TypeLinks.{HasTypeAt}

-- the table has for each type what the type itself says, or what it has for one to which the type links
abbrev pub IsUpward : List Placed → (Placed → Bool) → (Placed → Bool) → Type 0
IsUpward types says table = (t : Placed) → Contains types t → table t ≡ (says t || list_any (λ u. links t u && table u) types)

-- the mark that a table by numbers has for a type
abbrev pub mark_of : List Placed → List Bool → Placed → Bool
mark_of [] marks t = false
mark_of (x ∷ xs) [] t = false
mark_of (x ∷ xs) (m ∷ ms) t = if is_type x t then m else mark_of xs ms t

-- t has the name n, or uses it and no known type has it
abbrev pub mentions : List Placed → List ℕ → Placed → Bool
mentions types n t = is_named n t || is_none (type_named types n) && contains n (names_of t)

-- ---- Rows of numbers, by the types' numbers. `says n t` is whether t has the number n of its own.

-- each row has the numbers that its type has of its own
abbrev pub HasOwnRows : List Placed → (ℕ → Placed → Bool) → (ℕ → List ℕ) → Type 0
HasOwnRows types says own = (x : ℕ) (t : Placed) → HasTypeAt types x t → (n : ℕ) → Contains (own x) n ↔ (says n t ≡ true)

-- a row for t has the numbers that t, or a type above it, has of its own
abbrev pub IsUpwardRow : List Placed → (ℕ → Placed → Bool) → Placed → List ℕ → Type 0
IsUpwardRow types says t numbers = (n : ℕ) → Contains numbers n ↔ ((says n t || list_any (says n) (above types t)) ≡ true)

abbrev pub AreUpwardRows : List Placed → (ℕ → Placed → Bool) → (ℕ → List ℕ) → Type 0
AreUpwardRows types says rows = (x : ℕ) (t : Placed) → HasTypeAt types x t → IsUpwardRow types says t (rows x)

-- a row for x has its own numbers, and those of the rows to which x links
abbrev pub IsJoinedRow : List (List ℕ) → (ℕ → List ℕ) → (ℕ → List ℕ) → ℕ → List ℕ → Type 0
IsJoinedRow links own rows x numbers = (n : ℕ) → Contains numbers n ↔ (Contains (own x) n ⊎ ((y : ℕ) × HasLink links x y × Contains (rows y) n))

abbrev pub AreJoined : List (List ℕ) → (ℕ → List ℕ) → (ℕ → List ℕ) → Type 0
AreJoined links own rows = (x : ℕ) → x < length links → IsJoinedRow links own rows x (rows x)

-- ---- Rows of mentions: of each type the numbers of the interfaces at or above it, and of the absent names that it uses or
-- that a type above it uses.

-- a class is known by the name
abbrev pub is_class_name : List Placed → List ℕ → Bool
is_class_name types n = list_any (λ t. is_named n t && is_class t) types

-- the name of the number n isn't that of a known class, and t mentions it
abbrev pub mentions_at : List (List ℕ) → List Placed → ℕ → Placed → Bool
mentions_at names types n t = nat_lt n (length names) && (not (is_class_name types (text_at names n)) && mentions types (text_at names n) t)

-- the numbers of these that t has of its own: its name, where it is an interface, and the absent names that it uses
abbrev pub own_mentions : List (List ℕ) → List Placed → Placed → List ℕ
own_mentions names types t =
    (if is_interface t then place names t.view.name ∷ [] else [])
    ++ map (place names) (filter (λ n. is_none (type_named types n)) (names_of t))

-- the names rise, and have those of the types and all that these use
pub record HasNames (names : List (List ℕ)) (types : List Placed) : Type 0 where
  pub of_type : (t : Placed) → Contains types t → Contains names t.view.name
  pub used : (t : Placed) (n : List ℕ) → Contains types t → Contains (names_of t) n → Contains names n
  pub rise : Rises names

-- of each type the number of its name
abbrev pub AreTypeNames : List (List ℕ) → List Placed → (ℕ → ℕ) → Type 0
AreTypeNames names types name_at = (x : ℕ) (t : Placed) → HasTypeAt types x t → (name_at x < length names) × (text_at names (name_at x) ≡ t.view.name)

-- ---- Subclasses. The numbers have that of a class and those of its subclasses, of theirs, and so on.
pub record AreSubclasses (types : List Placed) (x : ℕ) (numbers : List ℕ) : Type 0 where
  pub top : Contains numbers x
  pub down : (y z : ℕ) (t u : Placed) → HasTypeAt types y t → HasTypeAt types z u → superclass types u ≡ Some t → Contains numbers y → Contains numbers z
  pub cause : (z : ℕ) (u : Placed) → HasTypeAt types z u → Contains numbers z
      → (z ≡ x) ⊎ ((y : ℕ) × (t : Placed) × HasTypeAt types y t × (superclass types u ≡ Some t) × Contains numbers y)
