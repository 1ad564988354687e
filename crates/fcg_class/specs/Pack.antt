-- Packing a folder: the bundle of its class files and its manifest.
use Rattle.std.specs.Prelude.{◌≡◌, ℕ, ◌≤◌, List, [], map, length, take, Bool, IfSome, true, not, ◌||◌, nat_lt, codes, Option, Some, None, Result, Ok, Err, if◌then◌else◌}
use Rattle.std.specs.List.{filter, position, list_all, AllZip}
use Rattle.std.specs.Option.{unwrap_or}
use Rattle.std.specs.Io.KnownBytes.{Appends, Keeps}
use Rattle.fcg_grammar.specs.Table.{table, Rises}
use Rattle.fcg_bytes.specs.Files as listing
use Rattle.fcg_bytes.specs.Files.{File, FilesFault, file_at, list_answer, path_in}
use Rattle.fcg_views.specs.Valid.{is_same}
use Rattle.fcg_bytes.specs.declared.files.FilesRefusal.{FilesRefusal}
use Rattle.fcg_bytes.specs.declared.files.FilesRefusal.TheVariants as files
use Rattle.fcg_class.specs.declared.packing.PackRefusal.{PackRefusal}
use Rattle.fcg_class.specs.declared.packing.PackRefusal.TheVariants as refusals
use Rattle.fcg_views.specs.declared.view.View.{View}
use Rattle.fcg_class.specs.declared.bundle.BundleFault.{BundleFault}
use Rattle.fcg_class.specs.declared.bundle.BundleFault.TheVariants.{Bundle, Class}
use Rattle.fcg_class.specs.declared.bundle.BundleRule.TheVariants.{ManySites}
use Rattle.fcg_class.specs.Bundle.{Entry, bundle, Holds, views_of}
use Rattle.fcg_class.specs.Path.{is_class_path, is_path}

-- the length of the longest bundle
abbrev pub bundle_limit : ℕ
bundle_limit = 67108864

-- what is packed: class files, and the manifest
abbrev pub is_packed : List ℕ → Bool
is_packed path = is_class_path path || is_same path (codes "META-INF/MANIFEST.MF")

-- the paths that are packed, of these, in the order of their bytes
abbrev pub packed : List (List ℕ) → List (List ℕ)
packed paths = table (filter is_packed paths)

-- the entry of the file at a path below a folder
abbrev pub entry_in : List File → List ℕ → List ℕ → Entry
entry_in files folder path = record { path = path; body = unwrap_or (file_at files (path_in folder path)) [] }

-- the first entry whose path is none of a bundle
abbrev pub bad_path : List Entry → Option ℕ
bad_path entries = position (λ e. not (is_path e.path)) entries

-- why a folder isn't packed: there is none, it is too long, or the path of this entry is none of a bundle
pub data PackFault : Type 0 where
  Absent : PackFault
  TooLong : PackFault
  BadPath : ℕ → PackFault

abbrev pub of_paths : List Entry → Option ℕ → Result (List Entry) PackFault
of_paths entries None = Ok entries
of_paths entries (Some k) = Err (BadPath k)

-- a bundle that is too long is refused, and then one with such a path
abbrev pub checked : List Entry → Result (List Entry) PackFault
checked entries = if nat_lt bundle_limit (length (bundle entries)) then Err TooLong else of_paths entries (bad_path entries)

abbrev pub fault_of : FilesFault → PackFault
fault_of listing.Absent = Absent
fault_of listing.TooLong = TooLong

abbrev pub of_list : List File → List ℕ → Result (List (List ℕ)) FilesFault → Result (List Entry) PackFault
of_list told folder (Ok paths) = checked (map (entry_in told folder) (packed paths))
of_list told folder (Err f) = Err (fault_of f)

-- The entries of the bundle that a folder is packed as, or why it isn't packed.
unfoldable pub pack_of : List File → List ℕ → Result (List Entry) PackFault
pack_of told folder = of_list told folder (list_answer told folder)

-- The refusal that a call answered is what the files give, unless a call of the files or the sink failed or memory ran
-- out.
abbrev pub IsRefusal : PackRefusal → Result (List Entry) PackFault → Type 0
IsRefusal refusals.NoMemory answer = Unit {0}
IsRefusal refusals.Absent answer = answer ≡ Err Absent
IsRefusal refusals.FilesFailed answer = Unit {0}
IsRefusal refusals.TooLong answer = answer ≡ Err TooLong
IsRefusal (refusals.BadPath k) answer = answer ≡ Err (BadPath k)
IsRefusal refusals.WriteFailed answer = Unit {0}

-- what packing answers where the files refuse
abbrev pub refusal_of : FilesRefusal → PackRefusal
refusal_of files.NoMemory = refusals.NoMemory
refusal_of files.Absent = refusals.Absent
refusal_of files.Failed = refusals.FilesFailed
refusal_of files.TooLong = refusals.TooLong

-- Entries that a folder is packed as: their paths rise, each is a path of a bundle and one that is packed, and the bundle
-- isn't too long. Where the files are told they are the entries that these give.
pub record ArePacked (told : Option (List File)) (folder : List ℕ) (entries : List Entry) : Type 0 where
  pub rise : Rises (map (λ e. e.path) entries)
  pub paths : list_all (λ e. is_path e.path) entries ≡ true
  pub chosen : list_all (λ e. is_packed e.path) entries ≡ true
  pub short : length (bundle entries) ≤ bundle_limit
  pub given : IfSome told (λ files. pack_of files folder ≡ Ok entries)

-- The views are those that the class files of the entries hold.
abbrev pub HoldsIn : Entry → Option View → Type 0
HoldsIn e r = Holds (is_class_path e.path) e.body r

pub record ReadsAs (entries : List Entry) (views : List View) : Type 0 where
  pub reads : List (Option View)
  pub each : AllZip HoldsIn entries reads
  pub views_are : views ≡ views_of entries reads

-- a fault of what entries hold: of a class file, or that there are too many sites
abbrev pub IsOfContent : BundleFault → Type 0
IsOfContent (Class k f) = Unit {0}
IsOfContent (Bundle at k ManySites) = Unit {0}
IsOfContent f = ⊥

-- What a call wrote: the bundle of so many entries; a front of it where the sink failed; else nothing.
abbrev pub Writes : (List Entry → Type 0) → Result ℕ PackRefusal → Option (List ℕ) → Option (List ℕ) → Type 0
Writes Are (Ok n) old new = (entries : List Entry) × Are entries × (n ≡ length entries) × Appends old new (bundle entries)
Writes Are (Err refusals.WriteFailed) old new = (entries : List Entry) × Are entries × ((k : ℕ) × Appends old new (take k (bundle entries)))
Writes Are (Err e) old new = Keeps old new
