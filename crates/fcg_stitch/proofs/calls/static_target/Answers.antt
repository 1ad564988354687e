use Rattle.std.proofs.Common.{subst}
use Rattle.fcg_analysis.specs.Declarations.{is_static}
use Rattle.fcg_join.specs.Outcomes.{GivesOutcome}
use Rattle.fcg_stitch.specs.Targets.{method_of}
use Rattle.fcg_stitch.proofs.CallNumbers.{passing, resolved_method}
use Rattle.fcg_stitch.proofs.calls.static_target.Goals as goal

pub returns-in-Method-clause-value : goal.returns-in-Method-clause-value
returns-in-Method-clause-value c = λ o g. (
    let parts = c.args.joined.now in
    let h = resolved_method parts c.in-Method.m o (subst (λ f. GivesOutcome parts f o) c.in-Method.is g) in
    passing parts (λ m. is_static m.method) c.in-Method.m c.is_static.result (method_of o) h c.is_static.ensures c.if-is_static.true)
