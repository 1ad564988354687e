-- Edges from a table of pairs.
use Rattle.std.specs.Prelude.{ℕ, List, Bool, map, filter, flat_map}
use Rattle.std.specs.List.{range_with_len}

-- the pairs of numbers below n that a table has, by the first and then by the second
unfoldable pub edges_in : ℕ → (ℕ → ℕ → Bool) → List (ℕ × ℕ)
edges_in n leads = flat_map (λ a. map (λ b. (a, b)) (filter (leads a) (range_with_len 0 n))) (range_with_len 0 n)
