-- What the packing of a folder leaves.
use Rattle.std.specs.Prelude.{◌≡◌, ◌≢◌, ℕ, ◌≤◌, List, Option, IfSome, Result, Ok, Err}
use Rattle.std.specs.Io.KnownBytes.{Appends}
use Rattle.fcg_bytes.specs.Causes.{Rose}
use Rattle.fcg_bytes.specs.Files.{File}
use Rattle.fcg_class.specs.Bundle.{Entry, bundle}
use Rattle.fcg_class.specs.Pack.{ArePacked, PackFault, Absent, TooLong, BadPath, pack_of}
use Rattle.fcg_top.specs.declared.status.Status.{Status}
use Rattle.fcg_top.specs.declared.status.Status.TheVariants as statuses
use Rattle.fcg_top.specs.declared.status.Refusal.{Refusal}
use Rattle.fcg_top.specs.declared.status.Refusal.TheVariants as refusals
use Rattle.fcg_top.specs.Objects.{Output, FileSystem}
use Rattle.fcg_top.specs.Answer.{GainsFront, Leaves, Tells, errors_of}

-- A folder that isn't packed is absent, or is too long, or has a path that a bundle may not have.
abbrev pub answer_of_pack : Result (List Entry) PackFault → Result (List ℕ) Refusal
answer_of_pack (Ok entries) = Ok (bundle entries)
answer_of_pack (Err Absent) = Err refusals.Absent
answer_of_pack (Err TooLong) = Err refusals.TooLong
answer_of_pack (Err (BadPath entry)) = Err (refusals.BadPath entry)

-- What packing answers for a folder of some files: its bundle, or a refusal.
unfoldable pub pack_answer : List ℕ → List File → Result (List ℕ) Refusal
pack_answer folder files = answer_of_pack (pack_of files folder)

-- Whatever the files tell: a folder's bundle was written, or a front of it where the output failed.
abbrev pub LeavesBundle : Status → (List Entry → Type 0) → Option (List ℕ) → Option (List ℕ) → Type 0
LeavesBundle statuses.Ok Are old new = (entries : List Entry) × Are entries × Appends old new (bundle entries)
LeavesBundle statuses.WriteFailed Are old new = (entries : List Entry) × Are entries × GainsFront old new (bundle entries)
LeavesBundle status Are old new = Unit {0}

-- Where the files are told, the output gains the bundle of the folder, and the errors the line of the status or of the
-- refusal; and what is written is a bundle of the folder's class files, whatever the files tell. The files stay as they
-- are, and a failed call of them has its cause.
pub record LeavesPack (folder : List ℕ) (status : Status) (files_old files_new : FileSystem) (output_old output_new errors_old errors_new : Output) : Type 0 where
  pub words : status ≢ statuses.Words
  pub output : IfSome files_old.told (λ files. Leaves status (pack_answer folder files) output_old.taken output_new.taken)
  pub bundle_is : LeavesBundle status (ArePacked files_old.told folder) output_old.taken output_new.taken
  pub errors : IfSome files_old.told (λ files. Tells errors_old.faults errors_new.faults errors_old.taken errors_new.taken (errors_of status (pack_answer folder files)))
  pub read_failed : status ≡ statuses.ReadFailed → Rose files_old.faults files_new.faults
  pub later : files_old.faults ≤ files_new.faults
  pub told : files_new.told ≡ files_old.told
