use Rattle.std.proofs.Common.{subst}
use Rattle.fcg_join.specs.Joined.{GivesNode}
use Rattle.fcg_stitch.specs.Targets.{is_concrete}
use Rattle.fcg_stitch.proofs.CallNumbers.{passing, failing}
use Rattle.fcg_stitch.proofs.calls.concrete_target.Goals as goal

pub returns-in-Some-clause-value : goal.returns-in-Some-clause-value
returns-in-Some-clause-value c = λ n g. (
    let parts = c.args.joined.now in
    passing parts is_concrete c.in-Some.m c.is_concrete.result n (subst (λ f. GivesNode parts f n) c.in-Some.is g) c.is_concrete.ensures c.if-is_concrete.true)

pub returns-in-Some-2-clause-value : goal.returns-in-Some-2-clause-value
returns-in-Some-2-clause-value c = λ n g. (
    let parts = c.args.joined.now in
    failing parts is_concrete c.in-Some.m c.is_concrete.result n (subst (λ f. GivesNode parts f n) c.in-Some.is g) c.is_concrete.ensures c.if-is_concrete.false)
