-- How a folder is packed, step by step.
use Rattle.std.specs.Prelude.{◌≡◌, ℕ, ◌+◌, ◌<◌, List, [], ◌∷◌, length, sum_by, Option, Some, None, Result, Ok, Err, IsSome, string_bytes}
use Rattle.std.specs.List.{All, concat}
use Rattle.fcg_grammar.specs.Spell.{u2, u4}
use Rattle.fcg_bytes.specs.Files.{File, file_at, path_in}
use Rattle.fcg_class.specs.declared.packing.PackedFile.{PackedFile}
use Rattle.fcg_class.specs.declared.packing.PackRefusal.{PackRefusal}
use Rattle.fcg_class.specs.declared.packing.PackRefusal.TheVariants as refusals
use Rattle.fcg_class.specs.Bundle.{Entry}
use Rattle.fcg_class.specs.Pack.{bundle_limit}

-- a file that was read, as an entry
abbrev pub entry_of : PackedFile → Entry
entry_of f = record { path = string_bytes f.path; body = f.body }

-- how many bytes an entry has, and a bundle of some entries
abbrev pub entry_size : Entry → ℕ
entry_size e = 6 + length e.path + length e.body

abbrev pub bundle_size : List Entry → ℕ
bundle_size entries = 10 + sum_by entry_size entries

-- the files that are told have one at each of some paths below a folder
abbrev pub AreThere : List File → List ℕ → List (List ℕ) → Type 0
AreThere told folder paths = All (λ path. IsSome (file_at told (path_in folder path))) paths

-- What reading a file gives where so many bytes of the bundle stand before its entry: that entry, or TooLong where the
-- bundle would be too long with it.
abbrev pub GivesFile : ℕ → Entry → Result PackedFile PackRefusal → Type 0
GivesFile size e (Ok f) = entry_of f ≡ e
GivesFile size e (Err refusals.TooLong) = bundle_limit < size + entry_size e
GivesFile size e (Err refusals.Absent) = ⊥
GivesFile size e (Err (refusals.BadPath k)) = ⊥
GivesFile size e (Err refusal) = Unit {0}

-- What reading the files of some entries gives: those entries, or TooLong where their bundle would be too long.
abbrev pub GivesFiles : List Entry → Result (List Entry) PackRefusal → Type 0
GivesFiles es (Ok read) = read ≡ es
GivesFiles es (Err refusals.TooLong) = bundle_limit < bundle_size es
GivesFiles es (Err refusals.Absent) = ⊥
GivesFiles es (Err (refusals.BadPath k)) = ⊥
GivesFiles es (Err refusal) = Unit {0}

-- What the check of the paths of some entries gives, by the first bad one.
abbrev pub GivesCheck : Option ℕ → Result (Unit {0}) PackRefusal → Type 0
GivesCheck bad (Ok checked) = bad ≡ None
GivesCheck bad (Err (refusals.BadPath k)) = bad ≡ Some k
GivesCheck bad (Err refusal) = ⊥

-- what stands before the entries of a bundle
abbrev pub head : ℕ → List ℕ
head count = concat (u4 0x46434742 ∷ u2 1 ∷ u4 count ∷ [])
