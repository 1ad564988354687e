-- Bundles: what they are, and how they are read.
use Rattle.std.specs.Prelude.{◌≡◌, ◌≢◌, ℕ, ◌+◌, ◌-◌, ◌<◌, ◌≤◌, ◌^◌, List, [], ◌∷◌, ◌++◌, length, map, min, sum_by, Bool, true, false, not, nat_eq, nat_le, Option, Some, None, Result, Ok, Err, ◌==◌, if◌then◌else◌}
use Rattle.std.specs.List.{concat, flat_map, list_any, starts_with, AllPairs, AllZip}
use Rattle.fcg_grammar.specs.Spell.{u2, u4}
use Rattle.fcg_grammar.specs.Number as number
use Rattle.fcg_grammar.specs.Reading.{◌>>=◌, unless_broken}
use Rattle.fcg_grammar.specs.Rows.{rows}
use Rattle.fcg_views.specs.declared.view.View.{View}
use Rattle.fcg_classfile.specs.declared.fault.ClassFault.{ClassFault}
use Rattle.fcg_classfile.specs.Reads.{Reads}
use Rattle.fcg_views.specs.Valid.{site_count, is_same}
use Rattle.fcg_classfile.specs.Breaks.Class.{class_of}
use Rattle.fcg_class.specs.declared.bundle.BundleFault.{BundleFault}
use Rattle.fcg_class.specs.declared.bundle.BundleFault.TheVariants.{Jar, Bundle, Class}
use Rattle.fcg_class.specs.declared.bundle.BundleRule.{BundleRule}
use Rattle.fcg_class.specs.declared.bundle.BundleRule.TheVariants.{Magic, Version, Cut, Path, Trailing, ManySites}
use Rattle.fcg_class.specs.Path.{is_path_length, is_path, is_class_path, is_versioned}

-- ==== what they are

-- an entry: a path, and its bytes
pub record Entry : Type 0 where
  pub path : List ℕ
  pub body : List ℕ

abbrev pub entry : Entry → List ℕ
entry e = concat (u2 (length e.path) ∷ e.path ∷ u4 (length e.body) ∷ e.body ∷ [])

-- FCGB, version 1, the entries
abbrev pub bundle : List Entry → List ℕ
bundle entries = concat (u4 0x46434742 ∷ u2 1 ∷ u4 (length entries) ∷ flat_map entry entries ∷ [])

-- what an entry holds: a class file with a view, or a module's, which has none; or what is passed over
abbrev pub Holds : Bool → List ℕ → Option View → Type 0
Holds false body r = r ≡ None
Holds true body r = Reads body r

pub record IsEntryOf (e : Entry) (r : Option View) : Type 0 where
  pub path : is_path e.path ≡ true
  pub few : length e.body < 2 ^ 32
  pub holds : Holds (is_class_path e.path) e.body r

abbrev pub some_of : Option View → List View
some_of None = []
some_of (Some v) = v ∷ []

-- the views that a bundle shows: not those of later versions of the platform
abbrev pub shown : List ℕ → Option View → Option View
shown path r = if is_versioned path then None else r

abbrev pub views_of : List Entry → List (Option View) → List View
views_of [] rs = []
views_of (e ∷ es) [] = []
views_of (e ∷ es) (r ∷ rs) = some_of (shown e.path r) ++ views_of es rs

-- the sites of a view, where there is one
abbrev pub sites_in : Option View → ℕ
sites_in None = 0
sites_in (Some v) = site_count v.methods

-- The bytes are a bundle, and it shows these views, in its order.
pub record Content (bytes : List ℕ) (views : List View) : Type 0 where
  pub entries : List Entry
  pub spelled : bytes ≡ bundle entries
  pub many : length entries < 2 ^ 32
  pub reads : List (Option View)
  pub each : AllZip IsEntryOf entries reads
  pub views_are : views ≡ views_of entries reads
  pub distinct : AllPairs (λ p q. p ≢ q) (map (λ e. e.path) entries)
  pub few_sites : sum_by sites_in reads ≤ 4000000

-- ==== how they are read: from front to back, up to the first item that breaks its rule

-- The fault at a place of an entry, where the entries are counted from 0. A place or a number that is too large for its
-- field is given as the field's last value.
abbrev pub broken : ℕ → ℕ → BundleRule → BundleFault
broken at k rule = Bundle (min at (2 ^ 32 - 1)) (min k (2 ^ 32 - 1)) rule

abbrev pub u2_at : List ℕ → ℕ → ℕ → Result ℕ BundleFault
u2_at bytes k at = number.u2_at (broken at k Cut) bytes at

abbrev pub u4_at : List ℕ → ℕ → ℕ → Result ℕ BundleFault
u4_at bytes k at = number.u4_at (broken at k Cut) bytes at

abbrev pub part_at : List ℕ → ℕ → ℕ → ℕ → Result (List ℕ) BundleFault
part_at bytes k at n = number.part_at (broken at k Cut) bytes at n

-- the path whose length stands at a place, and the place after it
unfoldable pub path_at : List ℕ → ℕ → ℕ → Result (List ℕ × ℕ) BundleFault
path_at bytes k at = do
  n ← u2_at bytes k at
  sized ← unless_broken (is_path_length n) (broken at k Path)
  path ← part_at bytes k (at + 2) n
  kept ← unless_broken (is_path path) (broken (at + 2) k Path)
  Ok (path, at + 2 + n)

-- a fault of an entry's class file
abbrev pub in_entry : {A : Type 0} → ℕ → Result A ClassFault → Result A BundleFault
in_entry k (Ok x) = Ok x
in_entry k (Err f) = Err (Class (min k (2 ^ 32 - 1)) f)

-- what an entry's bytes hold, by whether they are a class file's
abbrev pub held : ℕ → Bool → List ℕ → Result (Option View) BundleFault
held k false body = Ok None
held k true body = in_entry k (class_of body)

unfoldable pub body_at : List ℕ → ℕ → List ℕ → ℕ → Result (Option View × ℕ) BundleFault
body_at bytes k path at = do
  n ← u4_at bytes k at
  body ← part_at bytes k (at + 4) n
  read ← held k (is_class_path path) body
  Ok (read, at + 4 + n)

-- where the next entry stands, the paths of those before it, and how many sites the views may still have
pub record EntriesBefore : Type 0 where
  pub at : ℕ
  pub paths : List (List ℕ)
  pub room : ℕ

-- the view that an entry shows
unfoldable pub entry_at : List ℕ → ℕ → EntriesBefore → Result (Option View × EntriesBefore) BundleFault
entry_at bytes k before = do
  path ← path_at bytes k before.at
  fresh ← unless_broken (not (list_any (λ p. is_same p path.0) before.paths)) (broken (before.at + 2) k Path)
  body ← body_at bytes k path.0 path.1
  few ← unless_broken (nat_le (sites_in body.0) before.room) (broken (path.1 + 4) k ManySites)
  Ok (shown path.0 body.0, record { at = body.1; paths = before.paths ++ path.0 ∷ []; room = before.room - sites_in body.0 })

-- FCGB, version 1, the entries, and nothing after them
unfoldable pub entries_of : List ℕ → Result (List View) BundleFault
entries_of bytes = do
  magic ← u4_at bytes 0 0
  kept ← unless_broken (magic == 0x46434742) (broken 0 0 Magic)
  version ← u2_at bytes 0 4
  known ← unless_broken (version == 1) (broken 4 0 Version)
  count ← u4_at bytes 0 6
  read ← rows (entry_at bytes) count 0 (record { at = 10; paths = []; room = 4000000 })
  ended ← unless_broken (length bytes == read.1.at) (broken read.1.at count Trailing)
  Ok (flat_map some_of read.0)

-- `PK`, 3, 4
abbrev pub is_jar : List ℕ → Bool
is_jar bytes = starts_with nat_eq bytes (0x50 ∷ 0x4b ∷ 0x03 ∷ 0x04 ∷ [])

unfoldable pub bundle_of : List ℕ → Result (List View) BundleFault
bundle_of bytes = if is_jar bytes then Err Jar else entries_of bytes

-- Either a bundle with one content, or broken with one fault.
pub data BundleVerdict (bytes : List ℕ) : Type 0 where
  IsContent : (views : List View) → Content bytes views → ((other : List View) → Content bytes other → other ≡ views) → ((f : BundleFault) → bundle_of bytes ≡ Err f → ⊥) → BundleVerdict bytes
  IsBroken : (f : BundleFault) → bundle_of bytes ≡ Err f → ((views : List View) → Content bytes views → ⊥) → BundleVerdict bytes
