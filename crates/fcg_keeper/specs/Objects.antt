-- What keepers and stores in memory say of themselves.
use Rattle.std.specs.Prelude.{◌≡◌, ℕ, ◌+◌, ◌-◌, ◌^◌, ◌==◌, ◌||◌, min, nat_eq, Bool, true, false, List, [], Option, Some, None, IfSome}
use Rattle.std.specs.List.{find, list_any}
use Rattle.std.specs.Option.{option_map}
use Rattle.fcg_keeper.specs.Script.{Script, passing}
use Rattle.fcg_keeper.specs.Opening.{StoresTold}
use Rattle.fcg_keeper.specs.declared.record.Record.{Record}
use Rattle.fcg_keeper.specs.declared.memory.FailMode.{FailMode}

-- a keeper in memory: its records, its count of faults, the number of the next call, and the calls that fail
pub record KeeperState : Type 0 where
  pub records : List Record
  pub faults : ℕ
  pub calls : ℕ
  pub fail : List (ℕ × FailMode)

-- how a call fails, where it does: as the first of the list says that has its number
abbrev pub mode_of : List (ℕ × FailMode) → ℕ → Option FailMode
mode_of fail call = option_map (λ f. f.1) (find (λ f. f.0 == call) fail)

-- the number of the k-th call from the next one, which stays at the last value of a u64
abbrev pub call_after : ℕ → ℕ → ℕ
call_after calls k = min (calls + k) (2 ^ 64 - 1)

-- what each call to come does
abbrev pub script_of : KeeperState → Script
script_of s k = mode_of s.fail (call_after s.calls k)

-- stores in memory: the keeper that they hold, the count of faults, the number of the next open, the opens that
-- fail, and the paths of the opens
pub record StoresState : Type 0 where
  pub held : Option KeeperState
  pub faults : ℕ
  pub calls : ℕ
  pub fail : List ℕ
  pub paths : List (List ℕ)

-- what stores tell of the keeper that they hold: none is held while it is out
abbrev pub held_records : Option KeeperState → List Record
held_records None = []
held_records (Some k) = k.records

abbrev pub held_script : Option KeeperState → Script
held_script None = passing
held_script (Some k) = script_of k

abbrev pub is_out : Option KeeperState → Bool
is_out None = true
is_out (Some k) = false

-- What stores in memory tell of the next open: it fails where its number stands in the list, and while the keeper is out.
abbrev pub stores_told : StoresState → StoresTold
stores_told s = record {
  records = held_records s.held;
  script = held_script s.held;
  fails = list_any (nat_eq s.calls) s.fail || is_out s.held;
  paths = s.paths;
}

-- a keeper that is held has no fault
abbrev pub IsRested : Option KeeperState → Type 0
IsRested held = IfSome held (λ k. k.faults ≡ 0)

-- a keeper that was given back begins with no fault
abbrev pub rested : KeeperState → KeeperState
rested k = record k { faults = 0 }
