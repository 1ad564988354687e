-- What stands between two steps of the making of places.
use Rattle.std.specs.Prelude.{◌≡◌, ℕ, zero, suc, ◌+◌, ◌-◌, ◌<◌, ◌≤◌, ◌==◌, ◌⊎◌, List, Option, Some, None, length, slice_index_or, if◌then◌else◌}
use Rattle.fcg_order.specs.Places.{parent}
use Rattle.fcg_order.specs.Internal.Turn.{sum_first}

-- a parent, or where there is none the count of nodes
abbrev pub slot_of : ℕ → Option ℕ → ℕ
slot_of count None = count
slot_of count (Some p) = p

abbrev pub slot : List (Option ℕ) → ℕ → ℕ
slot parents x = slot_of (length parents) (parent parents x)

-- the node at a place of the order
abbrev pub node_at : List ℕ → ℕ → ℕ
node_at order k = slice_index_or order k 0

abbrev pub size_at : List ℕ → ℕ → ℕ
size_at sizes x = slice_index_or sizes x 0

-- what the node at a place of the order adds to a slot
abbrev pub added_to : List (Option ℕ) → List ℕ → List ℕ → ℕ → ℕ → ℕ
added_to parents order sizes s k = if slot parents (node_at order k) == s then size_at sizes (node_at order k) else 0

-- the sum of n from i on
abbrev pub sum_from : (ℕ → ℕ) → ℕ → ℕ → ℕ
sum_from f i zero = 0
sum_from f i (suc n) = f i + sum_from f (i + 1) n

-- what the nodes from place i of the order on add to a slot
abbrev pub added_from : List (Option ℕ) → List ℕ → List ℕ → ℕ → ℕ → ℕ
added_from parents order sizes i s = sum_from (added_to parents order sizes s) i (length order - i)

-- each node counts itself
abbrev pub own_size : List (Option ℕ) → ℕ → ℕ
own_size parents s = if s == length parents then 0 else 1

-- sizes, where the nodes from place i of the order on have added theirs
pub record AreSizes (parents : List (Option ℕ)) (order sizes : List ℕ) (i : ℕ) : Type 0 where
  pub long : length sizes ≡ length parents + 1
  pub size : (s : ℕ) → s ≤ length parents → size_at sizes s ≡ own_size parents s + added_from parents order sizes i s
  pub all : sum_first (λ k. size_at sizes (node_at order k)) i + size_at sizes (length parents) ≡ length order

-- the first place for what hangs at a slot
abbrev pub base : List (Option ℕ) → List ℕ → ℕ → ℕ
base parents enter s = if s == length parents then 0 else slice_index_or enter s 0 + 1

-- s is the count of nodes, or one of the first i of the order
abbrev pub IsOpen : List (Option ℕ) → List ℕ → ℕ → ℕ → Type 0
IsOpen parents order i s = (s ≡ length parents) ⊎ ((j : ℕ) × (j < i) × (node_at order j ≡ s))

-- places of the first i nodes of the order, and the next place at each slot
pub record AreEntered (parents : List (Option ℕ)) (order sizes enter next : List ℕ) (i : ℕ) : Type 0 where
  pub enter_long : length enter ≡ length parents
  pub next_long : length next ≡ length parents + 1
  pub place : (j : ℕ) → j < i
      → slice_index_or enter (node_at order j) 0 ≡ base parents enter (slot parents (node_at order j)) + sum_first (added_to parents order sizes (slot parents (node_at order j))) j
  pub next_place : (s : ℕ) → IsOpen parents order i s → slice_index_or next s 0 ≡ base parents enter s + sum_first (added_to parents order sizes s) i
  pub bound : (j : ℕ) → j < i → slice_index_or enter (node_at order j) 0 + size_at sizes (node_at order j) ≤ length order

-- each of the first n nodes stands at its place
pub record AreListed (enter nodes : List ℕ) (n : ℕ) : Type 0 where
  pub each : (x : ℕ) → x < n → slice_index_or nodes (slice_index_or enter x 0) 0 ≡ x
