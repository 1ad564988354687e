-- Accept over a keeper that tells its records and its script: what it loads and whether an append passes is computed.
use Rattle.std.specs.Prelude.{◌≡◌, ℕ, ◌+◌, List, [], ◌∷◌, ◌++◌, length, Option, Some, None, Result, Ok, Err, IfSome}
use Rattle.fcg_keeper.specs.declared.record.Record.{Record}
use Rattle.fcg_keeper.specs.Records.{loaded}
use Rattle.fcg_keeper.specs.Script.{Script, later, failed_append}
use Rattle.fcg_keeper.specs.declared.memory.FailMode.{FailMode}
use Rattle.fcg_book.specs.Entries.{LogEntry}
use Rattle.fcg_book.specs.Log.{Log}
use Rattle.fcg_book.specs.Accept.{OfficeState, sure, next_record, settled, decided}
use Rattle.fcg_book.specs.declared.answer.Accepted.{Accepted}
use Rattle.fcg_book.specs.declared.answer.Accepted.TheVariants.{Entered}
use Rattle.fcg_book.specs.declared.answer.Refused.{Refused}
use Rattle.fcg_book.specs.declared.answer.Refused.TheVariants.{NoMemory, KeeperFailed}

-- the state of an office, its keeper's records, and what the calls of the keeper to come do
pub record Told : Type 0 where
  pub office : OfficeState
  pub store : List Record
  pub script : Script

-- where the keeper tells both
abbrev pub told_of : OfficeState → Option (List Record) → Option Script → Option Told
told_of state (Some records) (Some script) = Some (record { office = state; store = records; script = script })
told_of state (Some records) None = None
told_of state None script = None

-- ---- 1. what a load gives that passes or fails, and the script after it: it takes one item where there is a doubt
abbrev pub load_told : Option FailMode → ℕ → List Record → Option (List Record)
load_told None from store = Some (loaded from store)
load_told (Some mode) from store = None

abbrev pub after_load : Option LogEntry → Script → Script
after_load None script = script
after_load (Some e) script = later script

abbrev pub settled_told : Told → Result OfficeState Refused
settled_told old = settled old.office (load_told (old.script 0) (length old.office.log + 1) old.store)

-- ---- 7. The append takes one item.
pub record AnsweredTold : Type 0 where
  pub answer : Result Accepted Refused
  pub told : Told

abbrev pub answered : Result Accepted Refused → Told → AnsweredTold
answered answer told = record { answer = answer; told = told }

abbrev pub append_told : Log → LogEntry → List Record → Script → Option FailMode → AnsweredTold
append_told log e store script None = record {
  answer = Ok (Entered (length log + 1));
  told = record { office = sure (log ++ e ∷ []); store = store ++ next_record log e ∷ []; script = later script };
}
append_told log e store script (Some mode) = record {
  answer = Err KeeperFailed;
  told = record { office = record { log = log; doubt = Some e }; store = failed_append mode store (next_record log e); script = later script };
}

-- ---- 2. to 7., after step 1
abbrev pub accepted_told : OfficeState → LogEntry → List Record → Script → Result (Option Accepted) Refused → AnsweredTold
accepted_told s e store script (Ok None) = append_told s.log e store script (script 0)
accepted_told s e store script (Ok (Some a)) = record { answer = Ok a; told = record { office = s; store = store; script = script } }
accepted_told s e store script (Err r) = record { answer = Err r; told = record { office = s; store = store; script = script } }

abbrev pub accept_told_from : Told → LogEntry → Script → Result OfficeState Refused → AnsweredTold
accept_told_from old e script (Err r) = record { answer = Err r; told = record { office = old.office; store = old.store; script = script } }
accept_told_from old e script (Ok s) = accepted_told s e old.store script (decided s.log e)

-- What is answered to a command, and what is told after it.
abbrev pub accept_told : Told → LogEntry → AnsweredTold
accept_told old e = accept_told_from old e (after_load old.office.doubt old.script) (settled_told old)

-- What a submit does where the keeper still tells both: it answers by the definition, or wants memory, before or after
-- step 1, and then the store stands.
pub data TellsSubmit (before : Told) (e : LogEntry) (result : Result Accepted Refused) (after : Told) : Type 0 where
  TellsAnswer : answered result after ≡ accept_told before e → TellsSubmit before e result after
  TellsBefore : result ≡ Err NoMemory → after.office ≡ before.office → after.store ≡ before.store → TellsSubmit before e result after
  TellsSettled : result ≡ Err NoMemory → settled_told before ≡ Ok after.office → after.store ≡ before.store → TellsSubmit before e result after

abbrev pub SubmitsTold : Option Told → LogEntry → Result Accepted Refused → Option Told → Type 0
SubmitsTold old e result new = IfSome new (λ after. (before : Told) × (old ≡ Some before) × TellsSubmit before e result after)
