-- What the steps of files in memory say of themselves.
use Rattle.std.specs.Prelude.{◌≡◌, ℕ, Bool, List, [], ◌∷◌, ◌++◌, map, Option, Some, None, if◌then◌else◌}
use Rattle.std.specs.Borrow.{Bor}
use Rattle.std.specs.List.{list_any}
use Rattle.std.specs.Ordering.{nat_cmp}
use Rattle.std.specs.declared.cmp.Ordering.{Ordering}
use Rattle.std.specs.Cmp.Lexicographic.{slice_cmp}
use Rattle.std.specs.BTreeSet as tree
use Rattle.std.specs.BTreeSet.{BTreeSet}
use Rattle.fcg_bytes.specs.Causes.{one_more}
use Rattle.fcg_bytes.specs.Files.{FilesState}
use Rattle.fcg_views.specs.Valid.{is_same}

abbrev pub path_cmp : Bor (List ℕ) → Bor (List ℕ) → Ordering
path_cmp x y = slice_cmp nat_cmp x.now y.now

-- the paths that a list of texts has
abbrev pub bytes_of : List (Bor (List ℕ)) → List (List ℕ)
bytes_of paths = map (λ path. path.now) paths

-- the set has these paths, and no others
abbrev pub Knows : BTreeSet (Bor (List ℕ)) → List (List ℕ) → Type 0
Knows set paths = (p : Bor (List ℕ)) → tree.contains path_cmp set p ≡ list_any (λ q. is_same q p.now) paths

-- a path more, where it isn't known yet
abbrev pub with_path : List (List ℕ) → List ℕ → List (List ℕ)
with_path paths path = if list_any (λ other. is_same other path) paths then paths else paths ++ path ∷ []

abbrev pub with_some : List (List ℕ) → Option (List ℕ) → List (List ℕ)
with_some paths None = paths
with_some paths (Some path) = with_path paths path

-- the count after a call that failed or not
abbrev pub risen : Bool → ℕ → ℕ
risen failed count = if failed then one_more count else count

-- files whose call is counted
abbrev pub after_count : FilesState → Bool → FilesState
after_count s failed = record s { faults = risen failed s.faults; calls = one_more s.calls }
