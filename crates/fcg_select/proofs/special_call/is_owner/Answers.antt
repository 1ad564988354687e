use Rattle.fcg_select.proofs.SpecialLaws.{owner_there, owner_absent}
use Rattle.fcg_select.proofs.special_call.is_owner.Goals as goal

pub returns-in-Some : goal.returns-in-Some
returns-in-Some c = λ n x g h. owner_there _ _ _ _ n x _ c.in-Some.is c.eq.ensures g h

pub returns-in-None : goal.returns-in-None
returns-in-None c = λ n x g h. owner_absent _ _ _ n x c.in-None.is g h
