-- What stands between two steps of the making of a row.
use Rattle.std.specs.Prelude.{◌≡◌, ℕ, ◌<◌, ◌≤◌, ◌==◌, List, Bool, true, false, not, ◌&&◌, nat_lt, All, AllPairs, filter, length, slice_index_or}
use Rattle.std.specs.List.Sorted.{IsStrictlyIncreasing}
use Rattle.fcg_order.specs.Links.{row}
use Rattle.fcg_edges.specs.Rows.{Rows, leads, has, any_has}
use Rattle.fcg_edges.specs.Internal.Tables.{AreApart}

-- lists may have been added; what was there stands
pub record AreWithLists (old new : Rows) : Type 0 where
  pub count : new.count ≡ old.count
  pub callers : new.targets ≡ old.targets
  pub more_lists : length old.lists ≤ length new.lists
  pub lists : (l : ℕ) → l < length old.lists → row new.lists l ≡ row old.lists l
  pub before : (a b : ℕ) → a < length old.targets → leads new a b ≡ leads old a b

-- the node was met in this turn
abbrev pub met : List ℕ → ℕ → ℕ → Bool
met marks turn b = nat_lt b (length marks) && (slice_index_or marks b 0 == turn)

-- the nodes that pass have the mark of a turn, and the others have what they had
pub record AreMarkedBy (turn : ℕ) (passes : ℕ → Bool) (old new : List ℕ) : Type 0 where
  pub long : length new ≡ length old
  pub within : (b : ℕ) → passes b ≡ true → b < length new
  pub marked : (b : ℕ) → passes b ≡ true → slice_index_or new b 0 ≡ turn
  pub left : (b : ℕ) → passes b ≡ false → slice_index_or new b 0 ≡ slice_index_or old b 0

-- the node has no mark of this turn
abbrev pub is_fresh : List ℕ → ℕ → ℕ → Bool
is_fresh marks turn b = not (slice_index_or marks b 0 == turn)

-- how many of these nodes have no mark of this turn
abbrev pub count_fresh : List ℕ → ℕ → List ℕ → ℕ
count_fresh marks turn numbers = length (filter (is_fresh marks turn) numbers)

-- the same numbers, each once and rising
pub record AreSorted (old new : List ℕ) : Type 0 where
  pub same : (b : ℕ) → has new b ≡ has old b
  pub rise : IsStrictlyIncreasing new

-- lists with the targets of those that were to be used, of which two have a target in common only if that is said
pub record AreKept (lists : List (List ℕ)) (uses kept : List ℕ) (overlap : Bool) : Type 0 where
  pub there : All (λ l. l < length lists) kept
  pub same : (b : ℕ) → any_has lists kept b ≡ any_has lists uses b
  pub apart : overlap ≡ false → AllPairs (λ l m. AreApart (row lists l) (row lists m)) kept

-- lists with the targets of those that were to be used, of which no two have a target in common
pub record AreUses (old new : List (List ℕ)) (uses kept : List ℕ) : Type 0 where
  pub there : All (λ l. l < length new) kept
  pub same : (b : ℕ) → any_has new kept b ≡ any_has old uses b
  pub apart : AllPairs (λ l m. AreApart (row new l) (row new m)) kept
