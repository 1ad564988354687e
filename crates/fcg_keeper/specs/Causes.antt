-- What a call does to a count of faults.
use Rattle.std.specs.Prelude.{ℕ, ◌≡◌, ◌≤◌, ◌==◌, Result, IsErrOf, if◌then◌else◌}
pub use Rattle.fcg_bytes.specs.Causes.{one_more, Rose}
use Rattle.fcg_keeper.specs.declared.keeper.KeeperRefusal.{KeeperRefusal}
use Rattle.fcg_keeper.specs.declared.keeper.KeeperRefusal.TheVariants as refusals

-- The count rose where the call failed, and else it stands.
pub record Counts {T : Type 0} (before now : ℕ) (result : Result T KeeperRefusal) : Type 0 where
  pub later : before ≤ now
  pub failed : IsErrOf result refusals.Failed → Rose before now
  pub kept : ¬ (IsErrOf result refusals.Failed) → now ≡ before

-- the count of stores that took a keeper back: it rises where the keeper failed
abbrev pub after_close : ℕ → ℕ → ℕ
after_close count faults = if faults == 0 then count else one_more count
