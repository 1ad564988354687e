-- What the steps of keepers and stores in memory say of themselves.
use Rattle.std.specs.Prelude.{ℕ, nat_lt, nat_le, nat_eq, ◌&&◌, Bool, true, false, List, [], ◌∷◌, ◌++◌, length, Option, Some, None, if◌then◌else◌}
use Rattle.std.specs.List.{list_any}
use Rattle.fcg_keeper.specs.Causes.{one_more}
use Rattle.fcg_keeper.specs.Objects.{KeeperState, StoresState}
use Rattle.fcg_keeper.specs.declared.keeper.TheConstants.{MOST_LOADED}
use Rattle.fcg_keeper.specs.declared.record.Record.{Record}

-- the keeper after a call, after a fault, and with a record more
abbrev pub after_call : KeeperState → KeeperState
after_call s = record s { calls = one_more s.calls }

abbrev pub after_fault : KeeperState → KeeperState
after_fault s = record s { faults = one_more s.faults }

abbrev pub with_record : KeeperState → Record → KeeperState
with_record s row = record s { records = s.records ++ row ∷ [] }

-- a record more, where there is room and its number is high enough
abbrev pub with_one : ℕ → List Record → Record → List Record
with_one from out row = if nat_lt (length out) MOST_LOADED && nat_le from row.seq then out ++ row ∷ [] else out

-- the stores with a path more
abbrev pub with_path : StoresState → List ℕ → StoresState
with_path s path = record s { paths = s.paths ++ path ∷ [] }

-- the keeper that an open hands out, and the stores after it
abbrev pub unless_failing : Bool → Option KeeperState → Option KeeperState
unless_failing true held = None
unless_failing false held = held

abbrev pub handed : StoresState → Option KeeperState
handed s = unless_failing (list_any (nat_eq s.calls) s.fail) s.held

abbrev pub out_of : StoresState → Option KeeperState → StoresState
out_of s (Some k) = record s { held = None; calls = one_more s.calls }
out_of s None = record s { faults = one_more s.faults; calls = one_more s.calls }

abbrev pub after_open : StoresState → StoresState
after_open s = out_of s (handed s)
