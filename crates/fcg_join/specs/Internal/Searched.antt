-- A search by halves in names that rise.
use Rattle.std.specs.Prelude.{◌≡◌, ℕ, ◌<◌, ◌≤◌, List, [], length, slice_index_or}
use Rattle.std.specs.declared.cmp.Ordering.TheVariants.{Less, Greater}
use Rattle.fcg_grammar.specs.Table.{order}

-- the names before low are less, and those from high on are greater
pub record IsSearched (names : List (List ℕ)) (name : List ℕ) (low high : ℕ) : Type 0 where
  pub within : high ≤ length names
  pub ordered : low ≤ high
  pub less : (k : ℕ) → k < low → order (slice_index_or names k []) name ≡ Less
  pub greater : (k : ℕ) → high ≤ k → k < length names → order (slice_index_or names k []) name ≡ Greater
