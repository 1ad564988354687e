use Rattle.std.proofs.Common.{refl}
use Rattle.fcg_select.proofs.Lines.{known_entry, unknown_entry}
use Rattle.fcg_select.proofs.line.has_superclass_entry.Goals as goal

pub returns-in-Some-name : goal.returns-in-Some-name
returns-in-Some-name c = λ x n h g. known_entry _ _ _ _ n _ _ c.in-Some-name.is c.eq.ensures g c.in-Some.ensures.range (λ m k. c.in-Some.ensures.value x _ h refl m k)

pub returns-in-None : goal.returns-in-None
returns-in-None c = λ x n h g. unknown_entry _ _ _ n _ c.in-None.is g c.in-Some.ensures.range (λ m k. c.in-Some.ensures.value x _ h refl m k)
