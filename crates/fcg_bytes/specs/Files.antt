-- What files tell, and what is answered over them.
use Rattle.std.specs.Prelude.{ℕ, ◌≡◌, ◌+◌, ◌≤◌, Bool, not, List, [], ◌∷◌, ◌++◌, length, drop, map, Option, Some, None, Result, Ok, Err, IsErrOf, if◌then◌else◌, nat_eq, nat_lt, String, Vec}
use Rattle.std.specs.List.{find, filter, filter_map, starts_with}
use Rattle.std.specs.Option.{option_map}
use Rattle.std.specs.String.{string_bytes}
use Rattle.fcg_views.specs.Valid.{is_same}
use Rattle.fcg_bytes.specs.Causes.{one_more, Rose}
use Rattle.fcg_bytes.specs.declared.files.FilesRefusal.{FilesRefusal}
use Rattle.fcg_bytes.specs.declared.files.FilesRefusal.TheVariants as refusals
use Rattle.fcg_bytes.specs.declared.files.TheConstants.{MOST_FILES}

-- a file: its path, and its bytes
pub record File : Type 0 where
  pub path : List ℕ
  pub bytes : List ℕ

-- the bytes of the file at a path: of several with that path those of the first
abbrev pub file_at : List File → List ℕ → Option (List ℕ)
file_at files path = option_map (λ f. f.bytes) (find (λ f. is_same f.path path) files)

-- the path below a folder: the folder, `/`, and the path relative to it
abbrev pub path_in : List ℕ → List ℕ → List ℕ
path_in folder path = folder ++ 47 ∷ path

-- the path relative to a folder, where the path begins with the folder and `/`
abbrev pub relative : List ℕ → List ℕ → Option (List ℕ)
relative folder path = if starts_with nat_eq path (path_in folder []) then Some (drop (length folder + 1) path) else None

-- each path of a list once, at its first place
abbrev pub once : List (List ℕ) → List (List ℕ)
once [] = []
once (path ∷ paths) = path ∷ filter (λ other. not (is_same path other)) (once paths)

-- the paths of the files below a folder, relative to it, each once, in the order of the files
abbrev pub below : List File → List ℕ → List (List ℕ)
below files folder = filter_map (λ f. relative folder f.path) files

unfoldable pub paths_below : List File → List ℕ → List (List ℕ)
paths_below files folder = once (below files folder)

-- why files that are told have no answer: nothing is there, or it is too long
pub data FilesFault : Type 0 where
  Absent : FilesFault
  TooLong : FilesFault

-- what a list of a folder gives: no such folder first, and then too many files
abbrev pub few : List (List ℕ) → Result (List (List ℕ)) FilesFault
few paths = if nat_eq (length paths) 0 then Err Absent else (if nat_lt MOST_FILES (length paths) then Err TooLong else Ok paths)

abbrev pub list_answer : List File → List ℕ → Result (List (List ℕ)) FilesFault
list_answer files folder = few (paths_below files folder)

-- what a read of a path gives: no such file first, and then too many bytes
abbrev pub short : ℕ → Option (List ℕ) → Result (List ℕ) FilesFault
short limit None = Err Absent
short limit (Some bytes) = if nat_lt limit (length bytes) then Err TooLong else Ok bytes

abbrev pub read_answer : List File → List ℕ → ℕ → Result (List ℕ) FilesFault
read_answer files path limit = short limit (file_at files path)

-- A call answers what its files give, unless it failed or memory ran out.
abbrev pub Refuses : {Y : Type 0} → FilesRefusal → Result Y FilesFault → Type 0
Refuses refusals.NoMemory answer = Unit {0}
Refuses refusals.Failed answer = Unit {0}
Refuses refusals.Absent answer = answer ≡ Err Absent
Refuses refusals.TooLong answer = answer ≡ Err TooLong

abbrev pub Answers : {X Y : Type 0} → (X → Y) → Result X FilesRefusal → Result Y FilesFault → Type 0
Answers view (Ok x) answer = answer ≡ Ok (view x)
Answers view (Err e) answer = Refuses e answer

-- The count rose where the call failed, and else it stands.
pub record Counts {T : Type 0} (before now : ℕ) (result : Result T FilesRefusal) : Type 0 where
  pub later : before ≤ now
  pub failed : IsErrOf result refusals.Failed → Rose before now
  pub kept : ¬ (IsErrOf result refusals.Failed) → now ≡ before

-- the texts of a list of paths
abbrev pub texts : {A : Type 0} → List (String A) → List (List ℕ)
texts paths = map string_bytes paths

-- files in memory: the files, the count of faults, the number of the next call, and the numbers of the calls that fail
pub record FilesState : Type 0 where
  pub files : List File
  pub faults : ℕ
  pub calls : ℕ
  pub fail : List ℕ

-- an entry of files in memory
abbrev pub file_of : {A : Type 0} → String A × Vec ℕ A → File
file_of entry = record { path = string_bytes entry.0; bytes = entry.1.items }

-- the count after a call
abbrev pub counted : {T : Type 0} → Result T FilesRefusal → ℕ → ℕ
counted (Ok x) count = count
counted (Err refusals.NoMemory) count = count
counted (Err refusals.Absent) count = count
counted (Err refusals.Failed) count = one_more count
counted (Err refusals.TooLong) count = count

-- the files after a call
abbrev pub after_call : {T : Type 0} → FilesState → Result T FilesRefusal → FilesState
after_call s result = record s { faults = counted result s.faults; calls = one_more s.calls }
