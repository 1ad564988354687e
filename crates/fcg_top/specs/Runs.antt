-- What a run leaves, by the command that its words give.
use Rattle.std.specs.Prelude.{◌≡◌, codes, Option, Some, None}
use Rattle.fcg_top.specs.declared.status.Status.{Status}
use Rattle.fcg_top.specs.declared.status.Status.TheVariants as statuses
use Rattle.fcg_top.specs.Objects.{Input, Output, FileSystem}
use Rattle.fcg_top.specs.Words.{Asked, Prints, Packs}
use Rattle.fcg_top.specs.Text.{line}
use Rattle.fcg_top.specs.Answer.{Tells}
use Rattle.fcg_top.specs.Listing.{LeavesListing}
use Rattle.fcg_top.specs.Packing.{LeavesPack}

-- Words of no command leave a line on the errors.
pub record LeavesWords (status : Status) (errors_old errors_new : Output) : Type 0 where
  pub words : status ≡ statuses.Words
  pub errors : Tells errors_old.faults errors_new.faults errors_old.taken errors_new.taken (line (codes "words"))

-- The record of the command. What the command doesn't use is left alone: what it tells stands, and so do its counts.
abbrev pub LeavesOf : Option Asked → Status → Input → Input → Output → Output → Output → Output → FileSystem → FileSystem → Type 0
LeavesOf (Some (Prints listing)) status input_old input_new output_old output_new errors_old errors_new files_old files_new =
    LeavesListing listing status input_old input_new output_old output_new errors_old errors_new × (files_new ≡ files_old)
LeavesOf (Some (Packs folder)) status input_old input_new output_old output_new errors_old errors_new files_old files_new =
    LeavesPack folder status files_old files_new output_old output_new errors_old errors_new × (input_new ≡ input_old)
LeavesOf None status input_old input_new output_old output_new errors_old errors_new files_old files_new =
    LeavesWords status errors_old errors_new × (input_new ≡ input_old) × (output_new ≡ output_old) × (files_new ≡ files_old)
