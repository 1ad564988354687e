-- How rows of edges are kept.
use Rattle.std.specs.Prelude.{◌≡◌, ℕ, ◌+◌, ◌<◌, ◌≤◌, ◌^◌, List, [], ◌∷◌, ◌++◌, All, Contains, length, map, sum, slice_index_or}
use Rattle.std.specs.List.{AllPairs}
use Rattle.fcg_order.specs.Links.{row}
use Rattle.fcg_edges.specs.Rows.{Rows, IsList}

-- no number stands in both
abbrev pub AreApart : List ℕ → List ℕ → Type 0
AreApart xs ys = (b : ℕ) → Contains xs b → Contains ys b → ⊥

-- a caller's own targets, and the numbers of its lists, which have no target in common with one another or with the own
pub record IsRow (count : ℕ) (lists : List (List ℕ)) (targets uses : List ℕ) : Type 0 where
  pub rise : IsList count targets
  pub there : All (λ l. l < length lists) uses
  pub apart : AllPairs (λ l m. AreApart (row lists l) (row lists m)) uses
  pub own : (l : ℕ) → Contains uses l → AreApart targets (row lists l)

-- how many targets a caller has
abbrev pub size_of : List (List ℕ) → List ℕ → List ℕ → ℕ
size_of lists targets uses = length targets + sum (map (λ l. length (row lists l)) uses)

-- one caller more
abbrev pub with_row : Rows → List ℕ → List ℕ → Rows
with_row r targets uses = record { count = r.count; targets = r.targets ++ targets ∷ []; uses = r.uses ++ uses ∷ []; lists = r.lists }

-- the rows of callers, with how many edges there are before each, and at the end how many there are
pub record AreRows (r : Rows) (firsts : List ℕ) : Type 0 where
  pub few : r.count < 2 ^ 32
  pub few_lists : length r.lists < 2 ^ 32
  pub within : length r.targets ≤ r.count
  pub uses_long : length r.uses ≡ length r.targets
  pub lists : All (IsList r.count) r.lists
  pub rows : (a : ℕ) → a < length r.targets → IsRow r.count r.lists (row r.targets a) (row r.uses a)
  pub firsts_long : length firsts ≡ length r.targets + 1
  pub first : slice_index_or firsts 0 0 ≡ 0
  pub sums : (a : ℕ) → a < length r.targets → slice_index_or firsts (a + 1) 0 ≡ slice_index_or firsts a 0 + size_of r.lists (row r.targets a) (row r.uses a)

-- Of each node the turn in which it was last met. Turns are counted from 1, and each caller had one.
pub record AreMarks (r : Rows) (marks : List ℕ) : Type 0 where
  pub long : length marks ≡ r.count
  pub turns : All (λ turn. turn ≤ length r.targets) marks
