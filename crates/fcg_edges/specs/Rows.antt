-- Edges between numbered nodes, kept by their callers: each caller has targets of its own, and uses lists of targets, which
-- callers share.
use Rattle.std.specs.Prelude.{◌≡◌, ℕ, ◌+◌, ◌<◌, ◌≤◌, ◌==◌, List, [], ◌∷◌, ◌++◌, Bool, ◌||◌, All, length, map, filter, flat_map}
use Rattle.std.specs.List.{list_any, range_with_len}
use Rattle.std.specs.List.Sorted.{IsStrictlyIncreasing}
use Rattle.fcg_order.specs.Links.{row}

pub record Rows : Type 0 where
  pub count : ℕ  -- how many nodes there are
  pub targets : List (List ℕ)  -- of each caller its own targets
  pub uses : List (List ℕ)  -- of each caller the numbers of the lists that it uses
  pub lists : List (List ℕ)

abbrev pub has : List ℕ → ℕ → Bool
has numbers b = list_any (λ x. x == b) numbers

-- one of the lists of these numbers has b
abbrev pub any_has : List (List ℕ) → List ℕ → ℕ → Bool
any_has lists numbers b = list_any (λ l. has (row lists l) b) numbers

-- the caller a leads to b
unfoldable pub leads : Rows → ℕ → ℕ → Bool
leads r a b = has (row r.targets a) b || any_has r.lists (row r.uses a) b

-- the edges of the callers, by caller and then by target
unfoldable pub edges_of : Rows → List (ℕ × ℕ)
edges_of r = flat_map (λ a. map (λ b. (a, b)) (filter (leads r a) (range_with_len 0 r.count))) (range_with_len 0 (length r.targets))

-- nodes below a count, each once, rising
pub record IsList (count : ℕ) (numbers : List ℕ) : Type 0 where
  pub rise : IsStrictlyIncreasing numbers
  pub below : All (λ b. b < count) numbers

-- rows of so many nodes, without a caller or a list
abbrev pub no_rows : ℕ → Rows
no_rows count = record { count = count; targets = []; uses = []; lists = [] }

-- one list more
abbrev pub with_list : Rows → List ℕ → Rows
with_list r numbers = record { count = r.count; targets = r.targets; uses = r.uses; lists = r.lists ++ numbers ∷ [] }

-- One caller more, which leads to these targets and to what these lists have. Lists may have been added. What was there
-- stands.
pub record IsWithCaller (old new : Rows) (targets uses : List ℕ) : Type 0 where
  pub count : new.count ≡ old.count
  pub callers : length new.targets ≡ length old.targets + 1
  pub more_lists : length old.lists ≤ length new.lists
  pub lists : (l : ℕ) → l < length old.lists → row new.lists l ≡ row old.lists l
  pub before : (a b : ℕ) → a < length old.targets → leads new a b ≡ leads old a b
  pub caller : (b : ℕ) → leads new (length old.targets) b ≡ (has targets b || any_has old.lists uses b)
