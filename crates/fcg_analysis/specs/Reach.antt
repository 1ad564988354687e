-- The methods that reach a target, over any list of edges between the nodes below a count (docs/analysis.md, Reach).
use Rattle.std.specs.Prelude.{◌≡◌, ◌<◌, ℕ, zero, suc, ◌+◌, List, [], ◌∷◌, Bool, true, false, ◌&&◌, ◌==◌, Option, Some, filter, find, filter_map, option_map}
use Rattle.std.specs.List.{list_any, range_with_len}

abbrev pub Edges : Type 0
Edges = List (ℕ × ℕ)

abbrev pub leads : Edges → ℕ → ℕ → Bool
leads es m u = list_any (λ e. e.0 == m && e.1 == u) es

-- the nodes from which a walk of k edges leads to the target
abbrev pub from_which : ℕ → Edges → ℕ → ℕ → List ℕ
from_which zero es count target = target ∷ []
from_which (suc k) es count target =
    let nearer = from_which k es count target in filter (λ m. list_any (leads es m) nearer) (range_with_len 0 count)

abbrev pub has_walk : Edges → ℕ → ℕ → ℕ → ℕ → Bool
has_walk es count target m k = list_any (λ n. n == m) (from_which k es count target)

-- a walk of k edges between nodes below the count
pub data WalkOf (es : Edges) (count target : ℕ) : ℕ → ℕ → Type 0 where
  here : WalkOf es count target target 0
  onward : {m u k : ℕ} → m < count → leads es m u ≡ true → WalkOf es count target u k → WalkOf es count target m (suc k)

-- the least number of edges of a walk; no more are needed than there are nodes
unfoldable pub dist : Edges → ℕ → ℕ → ℕ → Option ℕ
dist es count target m = find (has_walk es count target m) (range_with_len 0 (suc count))

abbrev pub is_next_of : Option ℕ → Option ℕ → Bool
is_next_of (Some n) (Some d) = n + 1 == d
is_next_of n d = false

unfoldable pub next : Edges → ℕ → ℕ → ℕ → Option ℕ
next es count target m =
    let far = dist es count target m in
    find (λ u. leads es m u && is_next_of (dist es count target u) far) (range_with_len 0 count)

pub record Row : Type 0 where
  pub node : ℕ
  pub steps : ℕ
  pub next : Option ℕ

abbrev pub row : Edges → ℕ → ℕ → ℕ → Option Row
row es count target m = option_map (λ d. record { node = m; steps = d; next = next es count target m }) (dist es count target m)

unfoldable pub rows : Edges → ℕ → ℕ → List Row
rows es count target = filter_map (row es count target) (range_with_len 0 count)
