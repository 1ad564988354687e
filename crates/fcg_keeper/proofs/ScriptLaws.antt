-- The script of a keeper in memory, and what its calls count.
use Rattle.std.proofs.Common.{◌≡◌, ◌≤◌, ◌<◌, ◌+◌, ◌^◌, ℕ, List, refl, sym, ap, subst, ◌∙◌, arith}
use Rattle.std.specs.Prelude.{Option, Some, None, Result, Ok, Err, IsErrOf, OnOk, OnErr}
use std.Path.{fun_ext}
use Rattle.fcg_keeper.specs.declared.memory.FailMode.{FailMode}
use Rattle.fcg_keeper.specs.declared.keeper.KeeperRefusal.{KeeperRefusal}
use Rattle.fcg_keeper.specs.declared.keeper.KeeperRefusal.TheVariants.{Failed, NoMemory}
use Rattle.fcg_keeper.specs.Causes.{one_more, Counts}
use Rattle.fcg_keeper.specs.Script.{later, Follows, Takes}
use Rattle.fcg_keeper.specs.Internal.Steps.{with_record}
use Rattle.fcg_keeper.specs.Objects.{KeeperState, mode_of, call_after, script_of}
use Rattle.fcg_keeper.specs.declared.record.Record.{Record}

call_later : (calls k : ℕ) → call_after (one_more calls) k ≡ call_after calls (k + 1)
call_later calls k = omega arith

call_now : (calls : ℕ) → calls < 2 ^ 64 → call_after calls 0 ≡ calls
call_now calls small = omega (arith, small)

pub script_now : (s : KeeperState) → s.calls < 2 ^ 64 → script_of s 0 ≡ mode_of s.fail s.calls
script_now s small = ap (mode_of s.fail) (call_now s.calls small)

-- one call later
script_later : (s : KeeperState) (after : KeeperState) → after.fail ≡ s.fail → after.calls ≡ one_more s.calls → script_of after ≡ later (script_of s)
script_later s after fail calls = fun_ext (λ k. ap (λ (f : List (ℕ × FailMode)). mode_of f (call_after after.calls k)) fail ∙ ap (λ (c : ℕ). mode_of s.fail (call_after c k)) calls ∙ ap (mode_of s.fail) (call_later s.calls k))

pub takes : {T : Type 0} (s after : KeeperState) (mode : Option FailMode) (result : Result T KeeperRefusal) → s.calls < 2 ^ 64 → mode ≡ mode_of s.fail s.calls → after.fail ≡ s.fail → after.calls ≡ one_more s.calls → Follows mode result → Takes (Some (script_of s)) result (Some (script_of after))
takes s after mode result small is fail calls follows = (script_of s, refl, script_later s after fail calls, subst (λ (m : Option FailMode). Follows m result) (is ∙ sym (script_now s small)) follows)

pub passes : {T : Type 0} (result : Result T KeeperRefusal) → ¬ (IsErrOf result Failed) → Follows None result
passes (Ok x) not_failed = tt
passes (Err NoMemory) not_failed = tt
passes (Err Failed) not_failed = not_failed refl

pub counts_failed : {T : Type 0} (before now : ℕ) → before ≤ now → now ≡ one_more before → Counts {T = T} before now (Err Failed)
counts_failed before now later is = record { later = later; failed = λ _. omega (arith, is); kept = λ h. absurd (h refl) }

-- what a record that was added, or wasn't for want of memory, leaves
pub added : (s after : KeeperState) (row : Record) (result : Result (Unit {0}) KeeperRefusal) → OnOk result (after ≡ with_record s row) → OnErr result (after ≡ s) → (after.fail ≡ s.fail) × (after.calls ≡ s.calls)
added s after row (Ok x) ok err = (ap (λ (k : KeeperState). k.fail) ok, ap (λ (k : KeeperState). k.calls) ok)
added s after row (Err e) ok err = (ap (λ (k : KeeperState). k.fail) err, ap (λ (k : KeeperState). k.calls) err)
