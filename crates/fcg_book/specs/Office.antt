-- What contracts see of an office, and what its type keeps.
use Rattle.std.specs.Prelude.{◌≡◌, ◌⊎◌, Bool, true, false, List, [], ◌∷◌, ◌++◌, Option, Some, None, Result, Ok, Err}
use Rattle.fcg_keeper.specs.declared.record.Record.{Record}
use Rattle.fcg_book.specs.Entries.{LogEntry}
use Rattle.fcg_book.specs.Log.{Log, records_of}
use Rattle.fcg_book.specs.Accept.{OfficeState, accept, settled}
use Rattle.fcg_book.specs.declared.answer.Accepted.{Accepted}
use Rattle.fcg_book.specs.declared.answer.Refused.{Refused}
use Rattle.fcg_book.specs.declared.answer.Refused.TheVariants.{NoMemory, StoreDiffers}

-- the keeper, the log, the entries since the opening that were not given yet, and the entry in doubt
pub record Shown (K : Type 0) : Type 0 where
  pub keeper : K
  pub log : Log
  pub fresh : List LogEntry
  pub doubt : Option LogEntry

module _ {K : Type 0} where
  abbrev pub state_of : Shown K → OfficeState
  state_of o = record { log = o.log; doubt = o.doubt }

-- The records of a keeper that tells them are those of the log, numbered from 1, and where there is a doubt its record
-- after them or not; not where the keeper tells what a crash may leave.
abbrev pub Matches : Bool → Log → Option LogEntry → List Record → Type 0
Matches sure log None rs = rs ≡ records_of log
Matches true log (Some e) rs = rs ≡ records_of log
Matches false log (Some e) rs = (rs ≡ records_of log) ⊎ (rs ≡ records_of (log ++ e ∷ []))

-- What a submit does over any keeper: what is answered and left by the definition, or want of memory, before or after
-- step 1.
pub data Submits (old : OfficeState) (e : LogEntry) (rs : Option (List Record)) (passed : Bool) (result : Result Accepted Refused) (new : OfficeState) : Type 0 where
  Answers : result ≡ (accept old e rs passed).answer → new ≡ (accept old e rs passed).state → Submits old e rs passed result new
  AsBefore : result ≡ Err NoMemory → new ≡ old → Submits old e rs passed result new
  AsSettled : result ≡ Err NoMemory → settled old rs ≡ Ok new → Submits old e rs passed result new

-- what the log gains is to be given
abbrev pub GainsFresh : Log → List LogEntry → Log → List LogEntry → Type 0
GainsFresh old_log old_fresh new_log new_fresh = (more : Log) × (new_log ≡ old_log ++ more) × (new_fresh ≡ old_fresh ++ more)

-- a submit that found another record than the one that was to stand there
abbrev pub Differs : {A : Type 0} → Result A Refused → Type 0
Differs {A} result = (found : Record) × (result ≡ Err (StoreDiffers found))
