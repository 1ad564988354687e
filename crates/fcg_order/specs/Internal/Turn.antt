-- What stands between two steps of the turning of rows.
use Rattle.std.specs.Prelude.{◌≡◌, ℕ, zero, suc, ◌+◌, ◌-◌, ◌<◌, ◌≤◌, ◌==◌, List, ◌∷◌, Bool, filter, length, slice_index_or, take, if◌then◌else◌}
use Rattle.std.specs.List.{list_any, range_with_len}
use Rattle.fcg_order.specs.Links.{row}

-- whether the row of x has n
abbrev pub has_number : List (List ℕ) → ℕ → ℕ → Bool
has_number rows n x = list_any (λ k. k == n) (row rows x)

-- the numbers from x on of the rows that have n
abbrev pub turned_from : List (List ℕ) → ℕ → ℕ → List ℕ
turned_from rows x n = filter (has_number rows n) (range_with_len x (length rows - x))

-- the same, with the first j numbers of the row before x
abbrev pub turned_to : List (List ℕ) → ℕ → ℕ → ℕ → List ℕ
turned_to rows x j n = if list_any (λ k. k == n) (take j (row rows x)) then x ∷ turned_from rows (x + 1) n else turned_from rows (x + 1) n

-- of each number how many it has
pub record AreCounted (rows : ℕ → List ℕ) (counts : List ℕ) : Type 0 where
  pub each : (n : ℕ) → slice_index_or counts n 0 ≡ length (rows n)

-- the sum of the first n
abbrev pub sum_first : (ℕ → ℕ) → ℕ → ℕ
sum_first f zero = 0
sum_first f (suc n) = sum_first f n + f n

-- of each place the sum up to it
pub record AreSums (counts sums : List ℕ) (n : ℕ) : Type 0 where
  pub long : length sums ≡ length counts
  pub done : (k : ℕ) → k < n → slice_index_or sums k 0 ≡ sum_first (λ m. slice_index_or counts m 0) (suc k)
  pub left : (k : ℕ) → n ≤ k → slice_index_or sums k 0 ≡ slice_index_or counts k 0

-- of each number where its row ends
pub record AreEnds (sizes : ℕ → ℕ) (ends : List ℕ) : Type 0 where
  pub each : (n : ℕ) → n < length ends → slice_index_or ends n 0 ≡ sum_first sizes (suc n)

-- Each number has the end of its row, which has room for all that the number has; what it has of them by now stands at
-- the row's end, from a start on.
pub record ArePlaced (sizes : ℕ → ℕ) (rows : ℕ → List ℕ) (starts targets : List ℕ) : Type 0 where
  pub long : length targets ≡ sum_first sizes (length starts)
  pub room : (n : ℕ) → length (rows n) ≤ sizes n
  pub start : (n : ℕ) → n < length starts → slice_index_or starts n 0 + length (rows n) ≡ sum_first sizes (suc n)
  pub value : (n k : ℕ) → n < length starts → k < length (rows n) → slice_index_or targets (slice_index_or starts n 0 + k) 0 ≡ slice_index_or (rows n) k 0

-- of each number how many rows have it
abbrev pub sizes_of : List (List ℕ) → ℕ → ℕ
sizes_of rows n = length (turned_from rows 0 n)
