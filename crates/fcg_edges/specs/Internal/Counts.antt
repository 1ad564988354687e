-- Counts of targets and of edges, and the next number that passes a test.
use Rattle.std.specs.Prelude.{◌≡◌, ℕ, ◌<◌, ◌≤◌, Bool, true, Option, Some, None, length, filter, sum_by}
use Rattle.std.specs.List.{range_with_len}
use Rattle.fcg_edges.specs.Rows.{Rows, leads}

-- how many numbers below b pass
abbrev pub count_to : (ℕ → Bool) → ℕ → ℕ
count_to p b = length (filter p (range_with_len 0 b))

-- how many edges the callers before a have
unfoldable pub edges_before : Rows → ℕ → ℕ
edges_before r a = sum_by (λ c. count_to (leads r c) r.count) (range_with_len 0 a)

-- the least number above b that passes, where there is one
abbrev pub IsNext : (ℕ → Bool) → ℕ → Option ℕ → Type 0
IsNext p b None = (k : ℕ) → b < k → p k ≡ true → ⊥
IsNext p b (Some t) = (b < t) × (p t ≡ true) × ((k : ℕ) → b < k → p k ≡ true → t ≤ k)
