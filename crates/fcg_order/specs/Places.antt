-- Places of the nodes of a forest, by which the nodes below a node are those of an interval. The nodes are the numbers below
-- the length of a list, which has for each of them its parent.
use Rattle.std.specs.Prelude.{◌≡◌, ◌≢◌, ◌↔◌, ℕ, ◌<◌, ◌≤◌, List, ◌∷◌, ◌++◌, Option, Some, None, length, slice_index_or, Contains}
use Rattle.std.specs.List.{AllPairs}

abbrev pub parent : List (Option ℕ) → ℕ → Option ℕ
parent parents x = slice_index_or parents x None

-- x is y, or its parent, or the parent of that, and so on
pub data IsOnLine (parents : List (Option ℕ)) : ℕ → ℕ → Type 0 where
  itself : {x : ℕ} → IsOnLine parents x x
  upward : {x y p : ℕ} → parent parents y ≡ Some p → IsOnLine parents x p → IsOnLine parents x y

-- the nodes, each once, and after its parent
pub record IsForest (parents : List (Option ℕ)) (order : List ℕ) : Type 0 where
  pub each : (x : ℕ) → Contains order x ↔ (x < length parents)
  pub once : AllPairs (λ x y. x ≢ y) order
  pub after : (before later : List ℕ) (x p : ℕ) → order ≡ before ++ x ∷ later → parent parents x ≡ Some p → Contains before p

-- Each node enters at a place of its own, and x stands on the line from y up where y enters from the place on at which x
-- enters, and before that at which x leaves.
pub record ArePlaces (parents : List (Option ℕ)) (enter leave nodes : List ℕ) : Type 0 where
  pub enter_long : length enter ≡ length parents
  pub leave_long : length parents ≤ length leave
  pub some : (x : ℕ) → x < length parents → slice_index_or enter x 0 < slice_index_or leave x 0
  pub within : (x : ℕ) → x < length parents → slice_index_or leave x 0 ≤ length nodes
  pub line : (x y : ℕ) → x < length parents → y < length parents
      → IsOnLine parents x y ↔ ((slice_index_or enter x 0 ≤ slice_index_or enter y 0) × (slice_index_or enter y 0 < slice_index_or leave x 0))
  pub node : (k : ℕ) → k < length nodes → (slice_index_or nodes k 0 < length parents) × (slice_index_or enter (slice_index_or nodes k 0) 0 ≡ k)
  pub listed : (x : ℕ) → x < length parents → slice_index_or nodes (slice_index_or enter x 0) 0 ≡ x
