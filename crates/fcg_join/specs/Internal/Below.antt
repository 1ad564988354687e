-- What is at or below a name, by the numbers of types.
use Rattle.std.specs.Prelude.{All, filter, ◌≡◌, ℕ, ◌<◌, ◌≤◌, List, Bool, ◌&&◌, Option, Some, None, Contains, drop, length, map, nat_le, nat_lt, slice_get, slice_index_or, take}
use Rattle.fcg_order.specs.Places.{ArePlaces}
use Rattle.fcg_order.specs.declared.places.Places.{Places}
use Rattle.fcg_analysis.specs.Declarations.{Placed}
use Rattle.fcg_analysis.specs.Types.{superclass, is_below}
use Rattle.fcg_join.specs.TypeLinks.{HasTypeAt}
use Rattle.fcg_join.specs.Joined.{IsTypeNumber}

-- of each type the class to which it links
abbrev pub AreSuperclasses : List Placed → List (Option ℕ) → Type 0
AreSuperclasses types superclasses = (x : ℕ) (t : Placed) → HasTypeAt types x t → IsTypeNumber types (slice_index_or superclasses x None) (superclass types t)

-- places of types by their superclasses
pub record AreTypePlaces (types : List Placed) (p : Places) : Type 0 where
  pub superclasses : List (Option ℕ)
  pub many : length superclasses ≡ length types
  pub are : AreSuperclasses types superclasses
  pub places : ArePlaces superclasses p.enter.items p.leave.items p.nodes.items

-- where a type enters, and where it leaves
abbrev pub enter_of : Places → ℕ → ℕ
enter_of p x = slice_index_or p.enter.items x 0

abbrev pub leave_of : Places → ℕ → ℕ
leave_of p x = slice_index_or p.leave.items x 0

-- x enters within the interval of y
abbrev pub is_under : Places → ℕ → ℕ → Bool
is_under p y x = nat_le (enter_of p y) (enter_of p x) && nat_lt (enter_of p x) (leave_of p y)

-- the types that do
abbrev pub interval : Places → ℕ → List ℕ
interval p y = drop (enter_of p y) (take (leave_of p y) p.nodes.items)

-- y has an interval of places
pub record HasInterval (p : Places) (y : ℕ) : Type 0 where
  pub entered : y < length p.enter.items
  pub left : y < length p.leave.items
  pub some : enter_of p y < leave_of p y
  pub within : leave_of p y ≤ length p.nodes.items

-- the number of a name, where it is one of these
abbrev pub IsNameNumber : List (List ℕ) → List ℕ → Option ℕ → Type 0
IsNameNumber names name None = Contains names name → ⊥
IsNameNumber names name (Some k) = slice_get names k ≡ Some name

-- the types of these numbers
abbrev pub HaveNumbers : List Placed → List ℕ → List Placed → Type 0
HaveNumbers types numbers found = map (slice_get types) numbers ≡ map Some found

-- the numbers of the types at or below a name, in order
pub record AreBelow (types : List Placed) (name : List ℕ) (numbers : List ℕ) : Type 0 where
  pub listed : HaveNumbers types numbers (filter (λ t. is_below types t name) types)
  pub range : All (λ x. x < length types) numbers
