-- The two calls that a submit consists of: step 1, and steps 6 and 7.
use Rattle.std.specs.Prelude.{◌≡◌, Bool, List, [], ◌∷◌, Option, Some, None, Result, Ok, Err, IfSome}
use Rattle.fcg_keeper.specs.declared.record.Record.{Record}
use Rattle.fcg_book.specs.Entries.{LogEntry}
use Rattle.fcg_book.specs.Log.{Log}
use Rattle.fcg_book.specs.Accept.{OfficeState, sure, settled, appended}
use Rattle.fcg_book.specs.Told.{Told, answered, settled_told, after_load, append_told}
use Rattle.fcg_book.specs.declared.answer.Accepted.{Accepted}
use Rattle.fcg_book.specs.declared.answer.Refused.{Refused}
use Rattle.fcg_book.specs.declared.answer.Refused.TheVariants.{NoMemory}
use Rattle.fcg_book.specs.declared.office.Found.{Found}
use Rattle.fcg_book.specs.declared.office.Found.TheVariants as finds

-- step 1 alone
pub data Settles (old : OfficeState) (rs : Option (List Record)) (result : Result (Unit {0}) Refused) (new : OfficeState) : Type 0 where
  Settled : result ≡ Ok tt → settled old rs ≡ Ok new → Settles old rs result new
  Refuses : (r : Refused) → result ≡ Err r → settled old rs ≡ Err r → new ≡ old → Settles old rs result new
  Wants : result ≡ Err NoMemory → new ≡ old → Settles old rs result new

-- over a keeper that tells its records and its script
pub data TellsSettle (before : Told) (result : Result (Unit {0}) Refused) (after : Told) : Type 0 where
  TellsSettled : result ≡ Ok tt → settled_told before ≡ Ok after.office → after ≡ record before { office = after.office; script = after_load before.office.doubt before.script } → TellsSettle before result after
  TellsRefusal : (r : Refused) → result ≡ Err r → settled_told before ≡ Err r → after ≡ record before { script = after_load before.office.doubt before.script } → TellsSettle before result after
  TellsWant : result ≡ Err NoMemory → after.office ≡ before.office → after.store ≡ before.store → TellsSettle before result after

abbrev pub SettlesTold : Option Told → Result (Unit {0}) Refused → Option Told → Type 0
SettlesTold old result new = IfSome new (λ after. (before : Told) × (old ≡ Some before) × TellsSettle before result after)

-- steps 6 and 7 alone
pub data Enters (log : Log) (e : LogEntry) (passed : Bool) (result : Result Accepted Refused) (new : OfficeState) : Type 0 where
  Appends : result ≡ (appended log e passed).answer → new ≡ (appended log e passed).state → Enters log e passed result new
  WantsRoom : result ≡ Err NoMemory → new ≡ sure log → Enters log e passed result new

pub data TellsEnter (before : Told) (e : LogEntry) (result : Result Accepted Refused) (after : Told) : Type 0 where
  TellsAppend : answered result after ≡ append_told before.office.log e before.store before.script (before.script 0) → TellsEnter before e result after
  TellsWantOfRoom : result ≡ Err NoMemory → after.office ≡ before.office → after.store ≡ before.store → TellsEnter before e result after

abbrev pub EntersTold : Option Told → LogEntry → Result Accepted Refused → Option Told → Type 0
EntersTold old e result new = IfSome new (λ after. (before : Told) × (old ≡ Some before) × TellsEnter before e result after)

-- what a load says of the record that was to be added
abbrev pub FoundAs : List Record → Option Record → Found → Type 0
FoundAs rs None finds.Nothing = rs ≡ []
FoundAs rs None finds.Record = (r : Record) × (others : List Record) × (rs ≡ r ∷ others)
FoundAs rs None (finds.Other found) = ⊥
FoundAs rs (Some other) finds.Nothing = ⊥
FoundAs rs (Some other) finds.Record = ⊥
FoundAs rs (Some other) (finds.Other found) = (found ≡ other) × ((r : Record) × (others : List Record) × (rs ≡ r ∷ others))
