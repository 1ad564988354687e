use Rattle.fcg_select.proofs.SpecialLaws.{from_chain, from_past}
use Rattle.fcg_select.proofs.special_call.find_from.Goals as goal

pub returns-in-Some-clause-value : goal.returns-in-Some-clause-value
returns-in-Some-clause-value c = λ x sig h g. from_chain _ c.tell_apart.ensures _ x sig _ h (c.in-Some.ensures.value x sig h g)

pub returns-in-None-clause-value : goal.returns-in-None-clause-value
returns-in-None-clause-value c = λ x sig h g. from_past _ c.tell_apart.ensures _ x sig _ h (c.in-None.ensures.value x sig h g) (c.find_past_chain.ensures.value x sig h g)
