use Rattle.fcg_select.specs.Internal.Wanted.{is_wanted}
use Rattle.fcg_select.proofs.OverLaws.{wanted_there, wanted_not, wanted_none}
use Rattle.fcg_select.proofs.chain.find_wanted_in.Goals as goal

pub returns-in-Some-clause-value : goal.returns-in-Some-clause-value
returns-in-Some-clause-value c = λ x sig h g. wanted_there _ _ _ _ _ (c.in-Some.ensures.value x sig h g) c.is_wanted.ensures c.if-is_wanted.true

pub returns-in-Some-2-clause-value : goal.returns-in-Some-2-clause-value
returns-in-Some-2-clause-value c = λ x sig h g. wanted_not _ _ _ _ _ (c.in-Some.ensures.value x sig h g) c.is_wanted.ensures c.if-is_wanted.false

pub returns-in-None-clause-value : goal.returns-in-None-clause-value
returns-in-None-clause-value c = λ x sig h g. wanted_none c.args.joined.now _ (is_wanted c.args.joined.now c.args.wanted.now) (c.in-None.ensures.value x sig h g)
