-- What opening an office does: over any keeper, and over one that tells its records, or its script too.
use Rattle.std.specs.Prelude.{◌≡◌, ◌≢◌, List, [], Option, Some, None, Result, Ok, Err, IfSome}
use Rattle.fcg_keeper.specs.declared.record.Record.{Record}
use Rattle.fcg_keeper.specs.declared.keeper.KeeperRefusal.{KeeperRefusal}
use Rattle.fcg_keeper.specs.declared.keeper.KeeperRefusal.TheVariants as keeper_refusals
use Rattle.fcg_keeper.specs.Records.{loaded}
use Rattle.fcg_keeper.specs.Script.{Script, later}
use Rattle.fcg_book.specs.Log.{Log}
use Rattle.fcg_book.specs.Office.{Shown}
use Rattle.fcg_book.specs.Opening.{opened}
use Rattle.fcg_book.specs.Told.{load_told}
use Rattle.fcg_book.specs.declared.opening.OpenFailed.{OpenFailed}
use Rattle.fcg_book.specs.declared.opening.OpenRefusal.{OpenRefusal}
use Rattle.fcg_book.specs.declared.opening.OpenRefusal.TheVariants.{NoMemory, KeeperFailed}

module _ {K : Type 0} where
  -- the keeper after opening, and the log or the refusal
  abbrev pub keeper_in : Result (Shown K) (OpenFailed K) → K
  keeper_in (Ok o) = o.keeper
  keeper_in (Err failed) = failed.keeper

  abbrev pub log_in : Result (Shown K) (OpenFailed K) → Result Log OpenRefusal
  log_in (Ok o) = Ok o.log
  log_in (Err failed) = Err failed.refusal

  -- an office that was just opened has nothing to give, and no doubt
  abbrev pub BeginsAnew : Result (Shown K) (OpenFailed K) → Type 0
  BeginsAnew (Ok o) = (o.fresh ≡ []) × (o.doubt ≡ None)
  BeginsAnew (Err failed) = Unit {0}

-- what a keeper's refusal is to an opening
abbrev pub open_refused_by : KeeperRefusal → OpenRefusal
open_refused_by keeper_refusals.NoMemory = NoMemory
open_refused_by keeper_refusals.Failed = KeeperFailed

-- what opening makes of what the load gave; None: it failed
abbrev pub open_of : Option (List Record) → Result Log OpenRefusal
open_of None = Err KeeperFailed
open_of (Some records) = opened records

-- That is the answer, unless there was no memory.
abbrev pub OpensAs : Result Log OpenRefusal → Result Log OpenRefusal → Type 0
OpensAs expected result = result ≢ Err NoMemory → result ≡ expected

-- Over any keeper it is what some load gave.
abbrev pub OpensOver : Result Log OpenRefusal → Type 0
OpensOver result = (given : Option (List Record)) × OpensAs (open_of given) result

-- Records that are told stay, and they were loaded, unless the keeper failed.
abbrev pub OpensTold : Option (List Record) → Result Log OpenRefusal → Option (List Record) → Type 0
OpensTold old result new = IfSome new (λ records. (old ≡ Some records) × (result ≢ Err KeeperFailed → OpensAs (opened (loaded 0 records)) result))

-- The load took the first item of a script that is told, and failed where that says so.
abbrev pub OpensScripted : Option Script → Option (List Record) → Result Log OpenRefusal → Option Script → Type 0
OpensScripted old told result new = IfSome new (λ rest. (script : Script) × (old ≡ Some script) × (rest ≡ later script)
    × IfSome told (λ records. OpensAs (open_of (load_told (script 0) 0 records)) result))
