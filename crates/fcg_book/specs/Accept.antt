-- How a command is decided: the seven decisions of `submit`, in their order.
use Rattle.std.specs.Prelude.{ℕ, ◌+◌, ◌==◌, ◌&&◌, nat_le, nat_lt, Bool, true, false, List, [], ◌∷◌, ◌++◌, length, Option, Some, None, Result, Ok, Err, if◌then◌else◌}
use Rattle.fcg_grammar.specs.Reading.{◌>>=◌, unless_broken}
use Rattle.fcg_views.specs.Valid.{is_same}
use Rattle.fcg_views.specs.declared.view.View.{View}
use Rattle.fcg_partial.specs.Views.{text_of}
use Rattle.fcg_keeper.specs.declared.record.Record.{Record}
use Rattle.fcg_book.specs.Entries.{LoggedCommand, Imports, Withdraws, coordinate_in, LogEntry}
use Rattle.fcg_book.specs.Spelling.{content_text, entry_text}
use Rattle.fcg_book.specs.Log.{Log, live, number_of, entry_in, record_of, bytes_of}
use Rattle.fcg_book.specs.declared.answer.Accepted.{Accepted}
use Rattle.fcg_book.specs.declared.answer.Accepted.TheVariants.{Entered, Repeated, Standing}
use Rattle.fcg_book.specs.declared.answer.Refused.{Refused}
use Rattle.fcg_book.specs.declared.answer.Refused.TheVariants.{NoMemory, RequestClash, AbsentRelease, ReleaseTooLarge, LogFull, StoreFull, KeeperFailed, StoreDiffers}
use Rattle.fcg_keeper.specs.declared.keeper.KeeperRefusal.{KeeperRefusal}
use Rattle.fcg_keeper.specs.declared.keeper.KeeperRefusal.TheVariants as keeper_refusals
use Rattle.fcg_book.specs.declared.log.TheConstants.{MOST_ENTRIES, MOST_RELEASE_BYTES, MOST_STORE_BYTES}

-- a log, and the entry of the last append, where that failed
pub record OfficeState : Type 0 where
  pub log : Log
  pub doubt : Option LogEntry

abbrev pub sure : Log → OfficeState
sure log = record { log = log; doubt = None }

-- the record that the entry after those of a log has
abbrev pub next_record : Log → LogEntry → Record
next_record log e = record_of (length log + 1) e

-- ---- 1. After a failed append the records after the log's are loaded.
abbrev pub is_record : Record → Record → Bool
is_record r s = r.seq == s.seq && is_same r.body s.body

-- the first of the records that isn't the one that was to stand there
abbrev pub first_other : Record → List Record → Option Record
first_other expected [] = None
first_other expected (r ∷ rs) = if is_record r expected then second rs else Some r
  where
    second : List Record → Option Record
    second [] = None
    second (s ∷ ss) = Some s

abbrev pub settled_with : Log → LogEntry → List Record → Option Record → Result OfficeState Refused
settled_with log e [] other = Ok (sure log)
settled_with log e (r ∷ rs) None = Ok (sure (log ++ e ∷ []))
settled_with log e (r ∷ rs) (Some other) = Err (StoreDiffers other)

-- none are there: the entry is forgotten; its record alone is there: it stands; else the store differs
abbrev pub settled_by : Log → LogEntry → Option (List Record) → Result OfficeState Refused
settled_by log e None = Err KeeperFailed
settled_by log e (Some rs) = settled_with log e rs (first_other (next_record log e) rs)

-- what the load gave is asked only where there is a doubt; None: it failed
abbrev pub settled : OfficeState → Option (List Record) → Result OfficeState Refused
settled s rs = by s.doubt
  where
    by : Option LogEntry → Result OfficeState Refused
    by None = Ok s
    by (Some e) = settled_by s.log e rs

-- ---- 2. to 5. What the log says of the command: an answer, a refusal, or that it is to be entered.
abbrev pub is_same_command : LoggedCommand → LoggedCommand → Bool
is_same_command (Imports c v) (Imports d w) = is_same c d && is_same (text_of v) (text_of w)
is_same_command (Imports c v) (Withdraws d) = false
is_same_command (Withdraws c) (Imports d w) = false
is_same_command (Withdraws c) (Withdraws d) = is_same c d

abbrev pub is_command_of : Option LogEntry → LoggedCommand → Bool
is_command_of None command = false
is_command_of (Some e) command = is_same_command e.command command

-- an import with these views
abbrev pub has_content : Option LogEntry → List View → Bool
has_content None views = false
has_content (Some e) views = has e.command
  where
    has : LoggedCommand → Bool
    has (Imports c v) = is_same (text_of v) (text_of views)
    has (Withdraws c) = false

-- 5. the limits
abbrev pub limited : Log → LogEntry → Result (Option Accepted) Refused
limited log e = do
  small ← unless_broken (nat_le (length (content_text e.command)) MOST_RELEASE_BYTES) (ReleaseTooLarge (length (content_text e.command)))
  room ← unless_broken (nat_lt (length log) MOST_ENTRIES) LogFull
  fits ← unless_broken (nat_le (bytes_of log + length (entry_text e)) MOST_STORE_BYTES) (StoreFull (bytes_of log + length (entry_text e)))
  Ok None

-- 3. and 4. by what is live at the coordinate
abbrev pub decided_live : Log → LogEntry → LoggedCommand → Option ℕ → Result (Option Accepted) Refused
decided_live log e (Imports c views) (Some n) = if has_content (entry_in log n) views then Ok (Some (Standing n)) else limited log e
decided_live log e (Imports c views) None = limited log e
decided_live log e (Withdraws c) (Some n) = limited log e
decided_live log e (Withdraws c) None = Err AbsentRelease

-- 2. by the entry of the request number
abbrev pub decided_number : Log → LogEntry → Option ℕ → Result (Option Accepted) Refused
decided_number log e (Some n) = if is_command_of (entry_in log n) e.command then Ok (Some (Repeated n)) else Err (RequestClash n)
decided_number log e None = decided_live log e e.command (live log (coordinate_in e.command))

unfoldable pub decided : Log → LogEntry → Result (Option Accepted) Refused
decided log e = decided_number log e (number_of log e.request)

-- ---- 7. The append.
pub record Answered : Type 0 where
  pub answer : Result Accepted Refused
  pub state : OfficeState

abbrev pub appended : Log → LogEntry → Bool → Answered
appended log e true = record { answer = Ok (Entered (length log + 1)); state = sure (log ++ e ∷ []) }
appended log e false = record { answer = Err KeeperFailed; state = record { log = log; doubt = Some e } }

-- what the append did is asked only where it is reached
abbrev pub accepted : OfficeState → LogEntry → Bool → Result (Option Accepted) Refused → Answered
accepted s e passed (Ok None) = appended s.log e passed
accepted s e passed (Ok (Some a)) = record { answer = Ok a; state = s }
accepted s e passed (Err r) = record { answer = Err r; state = s }

abbrev pub accept_from : OfficeState → LogEntry → Bool → Result OfficeState Refused → Answered
accept_from old e passed (Err r) = record { answer = Err r; state = old }
accept_from old e passed (Ok s) = accepted s e passed (decided s.log e)

-- What is answered to a command, and the state after it: by what the load gave, and by whether the append passed.
abbrev pub accept : OfficeState → LogEntry → Option (List Record) → Bool → Answered
accept old e rs passed = accept_from old e passed (settled old rs)

-- what a keeper's refusal is to a command
abbrev pub refused_by : KeeperRefusal → Refused
refused_by keeper_refusals.NoMemory = NoMemory
refused_by keeper_refusals.Failed = KeeperFailed
