-- What a command that answers leaves on the output and the errors.
use Rattle.std.specs.Prelude.{◌≡◌, ◌≢◌, ◌⊎◌, ℕ, ◌≤◌, List, [], take, codes, Option, Result, Ok, Err}
use Rattle.std.specs.Io.KnownBytes.{Appends, Keeps}
use Rattle.fcg_bytes.specs.Causes.{Rose}
use Rattle.fcg_top.specs.declared.status.Status.{Status}
use Rattle.fcg_top.specs.declared.status.Status.TheVariants as statuses
use Rattle.fcg_top.specs.declared.status.Refusal.{Refusal}
use Rattle.fcg_top.specs.Objects.{Output}
use Rattle.fcg_top.specs.Text.{line}
use Rattle.fcg_top.specs.Refused.{body_of}

-- A front of a text was written.
abbrev pub GainsFront : Option (List ℕ) → Option (List ℕ) → List ℕ → Type 0
GainsFront old new text = (n : ℕ) × Appends old new (take n text)

-- What a run leaves on the output: the whole text at Ok, a front of it where the output failed, else nothing.
abbrev pub Leaves : Status → Result (List ℕ) Refusal → Option (List ℕ) → Option (List ℕ) → Type 0
Leaves statuses.Ok (Ok text) old new = Appends old new text
Leaves statuses.Ok (Err refusal) old new = ⊥
Leaves statuses.WriteFailed (Ok text) old new = GainsFront old new text
Leaves statuses.WriteFailed (Err refusal) old new = ⊥
Leaves statuses.Refused (Ok text) old new = ⊥
Leaves statuses.Refused (Err refusal) old new = Appends old new []
Leaves statuses.Words answer old new = Appends old new []
Leaves statuses.ReadFailed answer old new = Appends old new []
Leaves statuses.NoMemory answer old new = Appends old new []

-- The line on the errors.
abbrev pub errors_of : Status → Result (List ℕ) Refusal → List ℕ
errors_of statuses.Ok answer = []
errors_of statuses.Words answer = line (codes "words")
errors_of statuses.Refused (Ok text) = []
errors_of statuses.Refused (Err refusal) = line (body_of refusal)
errors_of statuses.ReadFailed answer = line (codes "read failed")
errors_of statuses.WriteFailed answer = line (codes "write failed")
errors_of statuses.NoMemory answer = line (codes "no memory")

-- A line was told whole, or where the errors failed a front of it.
abbrev pub Tells : ℕ → ℕ → Option (List ℕ) → Option (List ℕ) → List ℕ → Type 0
Tells before now old new text = Appends old new text ⊎ (Rose before now × GainsFront old new text)

-- What holds of a run whatever its command, and whatever its objects tell: nothing is written but at Ok, or a front where
-- the output failed, which has counted it; no count of faults falls; and nothing else of the objects changes.
pub record Ends (status : Status) (output_old output_new errors_old errors_new : Output) : Type 0 where
  pub silent : status ≢ statuses.Ok → status ≢ statuses.WriteFailed → Keeps output_old.taken output_new.taken
  pub write_failed : status ≡ statuses.WriteFailed → Rose output_old.faults output_new.faults
  pub later : (output_old.faults ≤ output_new.faults) × (errors_old.faults ≤ errors_new.faults)
  pub aside : (output_new.aside ≡ output_old.aside) × (errors_new.aside ≡ errors_old.aside)
