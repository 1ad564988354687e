use Rattle.std.proofs.Common.{refl}
use Rattle.fcg_views.specs.Valid.{is_alike}
use Rattle.fcg_views.proofs.Distinct.{walked_one, stopped, walked_all}
use Rattle.fcg_views.proofs.valid.are_distinct.Goals as goal

pub returns-then-not-is_alone : goal.returns-then-not-is_alone
returns-then-not-is_alone c = stopped is_alike c.args.methods.now c.loop-method.rest.now c.in-Some.others.now c.in-Some.method.now c.in-Some.ensures.cases.0 c.if-not-is_alone.ensures.1 c.loop-method.invariant

pub loop-method-preserved : goal.loop-method-preserved
loop-method-preserved c = walked_one is_alike c.args.methods.now c.loop-method.rest.now c.in-Some.others.now c.in-Some.method.now c.in-Some.ensures.cases.0 (c.if-not-is_alone.ensures.0 refl) c.loop-method.invariant

pub returns : goal.returns
returns c = walked_all is_alike c.args.methods.now c.loop-method.rest.now c.in_default.ensures.cases c.loop-method.invariant
