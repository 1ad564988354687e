use Rattle.fcg_select.proofs.SpecialLaws.{nothing, init, starts, no_start}
use Rattle.fcg_select.proofs.special_call.special_by.Goals as goal

pub returns-then-not-goes_on-clause-value : goal.returns-then-not-goes_on-clause-value
returns-then-not-goes_on-clause-value c = λ x r h k g. nothing _ x r _ (c.goes_on.ensures _ g) c.if-not-goes_on.true

pub returns-then-target-clause-value : goal.returns-then-target-clause-value
returns-then-target-clause-value c = λ x r h k g. init _ x r _ (c.goes_on.ensures _ g) c.if-not-goes_on.false _ k.init c.if-target.true _ (c.find_init.ensures.value r _ k.owner g)

pub returns-in-Some-clause-value : goal.returns-in-Some-clause-value
returns-in-Some-clause-value c = λ x r h k g.
    starts _ x r _ (c.goes_on.ensures _ g) c.if-not-goes_on.false _ k.init c.if-target.false _ (c.in-Some.ensures.value x r h k) _ (λ y i. c.find_from.ensures.value y _ i k.signature)

pub returns-in-None-clause-value : goal.returns-in-None-clause-value
returns-in-None-clause-value c = λ x r h k g. no_start _ x r _ (c.goes_on.ensures _ g) c.if-not-goes_on.false _ k.init c.if-target.false (c.in-None.ensures.value x r h k)
