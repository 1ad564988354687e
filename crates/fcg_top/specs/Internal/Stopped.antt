-- Why a command stops, and what it stops with.
use Rattle.std.specs.Prelude.{◌≡◌, ◌⊎◌, ℕ, List, [], Result, Ok, Err}
use Rattle.fcg_grammar.specs.declared.error.ReadError.{ReadError}
use Rattle.fcg_grammar.specs.declared.error.ReadError.TheVariants as errors
use Rattle.fcg_bytes.specs.declared.source.ReadAllRefusal.{ReadAllRefusal}
use Rattle.fcg_bytes.specs.declared.source.ReadAllRefusal.TheVariants as reads
use Rattle.fcg_class.specs.declared.bundle.BundleFault.{BundleFault}
use Rattle.fcg_class.specs.declared.bundle.BundleFault.TheVariants as faults
use Rattle.fcg_class.specs.declared.packing.PackRefusal.{PackRefusal}
use Rattle.fcg_class.specs.declared.packing.PackRefusal.TheVariants as packs
use Rattle.fcg_views.specs.declared.view.View.{View}
use Rattle.fcg_top.specs.declared.status.Status.{Status}
use Rattle.fcg_top.specs.declared.status.Status.TheVariants as statuses
use Rattle.fcg_top.specs.declared.status.Refusal.{Refusal}
use Rattle.fcg_top.specs.declared.status.Refusal.TheVariants as refusals
use Rattle.fcg_top.specs.declared.status.Stop.{Stop}
use Rattle.fcg_top.specs.declared.status.Stop.TheVariants as stops
use Rattle.fcg_top.specs.Text.{line}
use Rattle.fcg_top.specs.Refused.{body_of}
use Rattle.fcg_top.specs.Answer.{errors_of}
use Rattle.fcg_top.specs.Listing.{IsBundle}

abbrev pub stop_of_read : ReadAllRefusal → Stop
stop_of_read reads.NoMemory = stops.NoMemory
stop_of_read reads.Failed = stops.ReadFailed
stop_of_read reads.TooLong = stops.Refused refusals.BodyTooLong

abbrev pub stop_of_bundle : ReadError BundleFault → Stop
stop_of_bundle errors.NoMemory = stops.NoMemory
stop_of_bundle (errors.Fault faults.Jar) = stops.Refused refusals.Jar
stop_of_bundle (errors.Fault (faults.Bundle offset entry rule)) = stops.Refused (refusals.BadBundle entry offset rule)
stop_of_bundle (errors.Fault (faults.Class entry f)) = stops.Refused (refusals.BadClass entry f)

abbrev pub stop_of_pack : PackRefusal → Stop
stop_of_pack packs.NoMemory = stops.NoMemory
stop_of_pack packs.Absent = stops.Refused refusals.Absent
stop_of_pack packs.FilesFailed = stops.ReadFailed
stop_of_pack packs.TooLong = stops.Refused refusals.TooLong
stop_of_pack (packs.BadPath entry) = stops.Refused (refusals.BadPath entry)
stop_of_pack packs.WriteFailed = stops.WriteFailed

-- what a part of a listing stopped with, or read, is what the input is as a bundle
abbrev pub Reads : Result (List View) Stop → Result (List View) Refusal → Type 0
Reads (Ok views) answer = answer ≡ Ok views
Reads (Err (stops.Refused refusal)) answer = answer ≡ Err refusal
Reads (Err stops.ReadFailed) answer = Unit {0}
Reads (Err stops.WriteFailed) answer = ⊥
Reads (Err stops.NoMemory) answer = Unit {0}

-- and that is right
abbrev pub IsMeant : List ℕ → Result (List View) Stop → Type 0
IsMeant input (Ok views) = IsBundle input (Ok views)
IsMeant input (Err (stops.Refused refusal)) = IsBundle input (Err refusal)
IsMeant input (Err stops.ReadFailed) = Unit {0}
IsMeant input (Err stops.WriteFailed) = ⊥
IsMeant input (Err stops.NoMemory) = Unit {0}

-- the status of a command that stopped, where there is memory for the line of a refusal
abbrev pub IsStatusOf : Stop → Status → Type 0
IsStatusOf (stops.Refused refusal) status = (status ≡ statuses.Refused) ⊎ (status ≡ statuses.NoMemory)
IsStatusOf stops.ReadFailed status = status ≡ statuses.ReadFailed
IsStatusOf stops.WriteFailed status = status ≡ statuses.WriteFailed
IsStatusOf stops.NoMemory status = status ≡ statuses.NoMemory

-- the line of a command that stopped
abbrev pub refusal_line : Stop → List ℕ
refusal_line (stops.Refused refusal) = line (body_of refusal)
refusal_line stop = []

abbrev pub stop_line : Status → Stop → List ℕ
stop_line statuses.Refused stop = refusal_line stop
stop_line status stop = errors_of status (Ok [])
