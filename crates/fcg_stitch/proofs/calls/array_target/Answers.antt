use Rattle.std.proofs.Common.{subst}
use Rattle.fcg_join.specs.Outcomes.{GivesOutcome}
use Rattle.fcg_stitch.proofs.CallNumbers.{fitting}
use Rattle.fcg_stitch.proofs.calls.array_target.Goals as goal

pub returns-in-Method-clause-value : goal.returns-in-Method-clause-value
returns-in-Method-clause-value c = λ o k g e. (
    let parts = c.args.joined.now in
    fitting parts c.in-Method.m c.fits_array.result o k (subst (λ f. GivesOutcome parts f o) c.in-Method.is g) (λ n h r. c.fits_array.ensures n o k h r e) c.if-fits_array.true)
