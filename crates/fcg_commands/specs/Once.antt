-- A command over a store that tells what it holds: what it comes to, and what the store tells after it.
use Rattle.std.specs.Prelude.{◌≡◌, ◌⊎◌, ℕ, List, [], ◌∷◌, ◌++◌, length, Option, Some, None, Result, Ok, Err, IfSome, if◌then◌else◌}
use Rattle.fcg_keeper.specs.declared.record.Record.{Record}
use Rattle.fcg_keeper.specs.declared.memory.FailMode.{FailMode}
use Rattle.fcg_keeper.specs.Records.{loaded}
use Rattle.fcg_keeper.specs.Script.{Script, later}
use Rattle.fcg_keeper.specs.Opening.{StoresTold}
use Rattle.fcg_book.specs.declared.opening.OpenRefusal.{OpenRefusal}
use Rattle.fcg_book.specs.Entries.{coordinate_in, LogEntry}
use Rattle.fcg_book.specs.Log.{Log}
use Rattle.fcg_book.specs.Accept.{sure}
use Rattle.fcg_book.specs.Told.{AnsweredTold, accept_told}
use Rattle.fcg_book.specs.Opening.{opened}
use Rattle.fcg_answer.specs.declared.query.Query.{Query}
use Rattle.fcg_answer.specs.Answer.{answer}
use Rattle.fcg_commands.specs.declared.outcome.Outcome.{Outcome}
use Rattle.fcg_commands.specs.declared.outcome.Outcome.TheVariants.{KeeperFailed, NoMemory}
use Rattle.fcg_commands.specs.Outcomes.{opening_outcome, submit_outcome, query_outcome}

-- the records of a keeper, and what its calls to come do
pub record Store : Type 0 where
  pub records : List Record
  pub script : Script

-- where the keeper tells both
abbrev pub store_of : Option (List Record) → Option Script → Option Store
store_of (Some records) (Some script) = Some (record { records = records; script = script })
store_of (Some records) None = None
store_of None script = None

-- what a command comes to, and the store after it
pub record Ended : Type 0 where
  pub outcome : Outcome
  pub store : Store

abbrev pub ended : Outcome → List Record → Script → Ended
ended outcome records script = record { outcome = outcome; store = record { records = records; script = script } }

module _ (do_over : Log → List Record → Script → Ended) where
  -- the log that the records spell, or their first fault
  abbrev pub over_log : List Record → Script → Result Log OpenRefusal → Ended
  over_log records script (Ok log) = do_over log records script
  over_log records script (Err refusal) = ended (opening_outcome refusal) records script

  -- the load of the opening fails or passes
  abbrev pub over_load : Store → Option FailMode → Ended
  over_load s (Some mode) = ended KeeperFailed s.records (later s.script)
  over_load s None = over_log s.records (later s.script) (opened (loaded 0 s.records))

  -- a command over a keeper begins with its opening
  abbrev pub over_keeper : Store → Ended
  over_keeper s = over_load s (s.script 0)

  -- where the opening of the stores doesn't fail
  abbrev pub over_stores : StoresTold → Ended
  over_stores t = if t.fails then ended KeeperFailed t.records t.script else over_keeper (record { records = t.records; script = t.script })

-- ---- one submit
abbrev pub ended_submit : List ℕ → AnsweredTold → Ended
ended_submit release a = ended (submit_outcome (length a.told.office.log) release a.answer) a.told.store a.told.script

abbrev pub submit_over : LogEntry → Log → List Record → Script → Ended
submit_over e log records script = ended_submit (coordinate_in e.command) (accept_told (record { office = sure log; store = records; script = script }) e)

-- ---- one query
abbrev pub ask_over : Query → Log → List Record → Script → Ended
ask_over query log records script = ended (query_outcome (answer log query)) records script

-- ---- A call over a keeper ends so, or wants memory and leaves the records.
pub data EndsAs (expected : Ended) (before : List Record) (outcome : Outcome) (after : Store) : Type 0 where
  Ends : ended outcome after.records after.script ≡ expected → EndsAs expected before outcome after
  Wants : outcome ≡ NoMemory → after.records ≡ before → EndsAs expected before outcome after

abbrev pub EndsOver : (Log → List Record → Script → Ended) → Option Store → Outcome → Option Store → Type 0
EndsOver do_over old outcome new = IfSome new (λ after. (before : Store) × (old ≡ Some before) × EndsAs (over_keeper do_over before) before.records outcome after)

-- ---- And so over stores, which keep the path of an opening that there was memory for.
abbrev pub store_told : StoresTold → Store
store_told t = record { records = t.records; script = t.script }

pub record EndsTold (do_over : Log → List Record → Script → Ended) (path : List ℕ) (before : StoresTold) (outcome : Outcome) (after : StoresTold) : Type 0 where
  pub ends : EndsAs (over_stores do_over before) before.records outcome (store_told after)
  pub paths : (after.paths ≡ before.paths ++ path ∷ []) ⊎ ((outcome ≡ NoMemory) × (after.paths ≡ before.paths))

abbrev pub EndsOnce : (Log → List Record → Script → Ended) → List ℕ → Option StoresTold → Outcome → Option StoresTold → Type 0
EndsOnce do_over path old outcome new = IfSome new (λ after. (before : StoresTold) × (old ≡ Some before) × EndsTold do_over path before outcome after)
