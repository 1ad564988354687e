-- What the reader of a bundle's entries answers.
use Rattle.std.specs.Prelude.{◌≡◌, ℕ, List, [], ◌∷◌, ◌++◌, Option, Result, Ok, Err}
use Rattle.std.specs.Borrow.{Bor}
use Rattle.std.specs.List.{flat_map, list_any}
use Rattle.std.specs.Ordering.{nat_cmp}
use Rattle.std.specs.declared.cmp.Ordering.{Ordering}
use Rattle.std.specs.Cmp.Lexicographic.{slice_cmp}
use Rattle.std.specs.BTreeSet as tree
use Rattle.std.specs.BTreeSet.{BTreeSet}
use Rattle.fcg_grammar.specs.declared.error.ReadError.{ReadError}
use Rattle.fcg_grammar.specs.declared.error.ReadError.TheVariants as errors
use Rattle.fcg_grammar.specs.Reading.{Fails}
use Rattle.fcg_views.specs.declared.view.View.{View}
use Rattle.fcg_classfile.specs.declared.fault.ClassFault.{ClassFault}
use Rattle.fcg_class.specs.declared.bundle.Ahead.{Ahead}
use Rattle.fcg_class.specs.declared.bundle.BundleFault.{BundleFault}
use Rattle.fcg_class.specs.declared.bundle.BundleFault.TheVariants.{Class}
use Rattle.fcg_class.specs.Bundle.{some_of, EntriesBefore}
use Rattle.fcg_views.specs.Valid.{is_same}

abbrev pub path_cmp : Bor (List ℕ) → Bor (List ℕ) → Ordering
path_cmp x y = slice_cmp nat_cmp x.now y.now

-- the set has these paths, and no others
abbrev pub ArePaths : BTreeSet (Bor (List ℕ)) → List (List ℕ) → Type 0
ArePaths set paths = (p : Bor (List ℕ)) → tree.contains path_cmp set p ≡ list_any (λ q. is_same q p.now) paths

-- before an entry: its place, the number of sites that the class files may still have, and the paths of those before
abbrev pub entries_before : Ahead → List (List ℕ) → EntriesBefore
entries_before ahead paths = record { at = ahead.at; paths = paths; room = ahead.room }

abbrev pub before_first : ℕ → EntriesBefore
before_first at = record { at = at; paths = []; room = 4000000 }

-- an entry more, and what is ahead after its entry, whose path is in the set; or the fault
abbrev pub GivesEntry : Result (Option View × Ahead) (ReadError BundleFault) → BTreeSet (Bor (List ℕ)) → List (List ℕ) → Result (Option View × EntriesBefore) BundleFault → Type 0
GivesEntry (Ok x) set paths read = (path : List ℕ) × ArePaths set (paths ++ path ∷ []) × (read ≡ Ok (x.0, entries_before x.1 (paths ++ path ∷ [])))
GivesEntry (Err e) set paths read = Fails e read

-- the error of a bundle where reading an entry's class file ended in an error
abbrev pub error_in_entry : ℕ → ReadError ClassFault → ReadError BundleFault
error_in_entry k errors.NoMemory = errors.NoMemory
error_in_entry k (errors.Fault f) = errors.Fault (Class k f)

-- The views that some entries show, and the place after them, whatever their paths; or the fault.
abbrev pub GivesEntries : Result (List View × ℕ) (ReadError BundleFault) → Result (List (Option View) × EntriesBefore) BundleFault → Type 0
GivesEntries (Ok x) read = (reads : List (Option View)) × (paths : List (List ℕ)) × (room : ℕ) × (x.0 ≡ flat_map some_of reads) × (read ≡ Ok (reads, record { at = x.1; paths = paths; room = room }))
GivesEntries (Err e) read = Fails e read
