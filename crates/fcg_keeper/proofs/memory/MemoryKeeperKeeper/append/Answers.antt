use Rattle.std.proofs.Common.{◌≤◌, sym, ap, subst, ◌∙◌, ℕ}
use Rattle.std.specs.Prelude.{Some, None, Err}
use Rattle.fcg_keeper.specs.declared.keeper.KeeperRefusal.TheVariants.{Failed}
use Rattle.fcg_keeper.specs.Causes.{one_more}
use Rattle.fcg_keeper.specs.Objects.{KeeperState}
use Rattle.fcg_keeper.proofs.ScriptLaws.{takes, passes, added, counts_failed}
use Rattle.fcg_keeper.proofs.memory.MemoryKeeperKeeper.append.Goals as goal

pub returns-in-None-clause-script : goal.returns-in-None-clause-script
returns-in-None-clause-script c =
    let kept = added c.count_call.new.self c.add.new.self c.args.row.now c.add.result c.add.ensures.ok c.add.ensures.err in
    takes {T = Unit {0}} c.args.self.now c.add.new.self None c.add.result c.count_call.ensures.small (sym c.in-None.is ∙ c.count_call.ensures.mode)
    (kept.0 ∙ ap (λ (s : KeeperState). s.fail) c.count_call.ensures.state)
    (kept.1 ∙ ap (λ (s : KeeperState). s.calls) c.count_call.ensures.state)
    (passes c.add.result c.add.ensures.no_failure)

pub returns-in-Some-Before-clause-cause : goal.returns-in-Some-Before-clause-cause
returns-in-Some-Before-clause-cause c =
    counts_failed {T = Unit {0}} _ _ (subst (λ (n : ℕ). n ≤ c.count_fault.new.self.faults) (ap (λ (s : KeeperState). s.faults) c.count_call.ensures.state) c.count_fault.ensures.later)
    (ap (λ (s : KeeperState). s.faults) c.count_fault.ensures.state ∙ ap (λ (s : KeeperState). one_more s.faults) c.count_call.ensures.state)

pub returns-in-Some-Before-clause-script : goal.returns-in-Some-Before-clause-script
returns-in-Some-Before-clause-script c =
    takes {T = Unit {0}} c.args.self.now c.count_fault.new.self (Some c.in-Some-Before.field-0) (Err Failed) c.count_call.ensures.small (sym c.in-Some-Before.is ∙ c.count_call.ensures.mode)
    (ap (λ (s : KeeperState). s.fail) c.count_fault.ensures.state ∙ ap (λ (s : KeeperState). s.fail) c.count_call.ensures.state)
    (ap (λ (s : KeeperState). s.calls) c.count_fault.ensures.state ∙ ap (λ (s : KeeperState). s.calls) c.count_call.ensures.state) (tt {0})
