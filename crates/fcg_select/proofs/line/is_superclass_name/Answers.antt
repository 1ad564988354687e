use Rattle.std.specs.Prelude.{Some}
use Rattle.fcg_select.proofs.Lines.{of_known, of_absent}
use Rattle.fcg_select.proofs.line.is_superclass_name.Goals as goal

pub returns-in-Some : goal.returns-in-Some
returns-in-Some c = λ x n h g k. of_known _ _ _ _ x n _ c.in-Some.is h g (λ v i. c.is_met.ensures v _ i (c.superclass.ensures.value x h))

pub returns-in-None : goal.returns-in-None
returns-in-None c = λ x n h g k. of_absent _ _ _ x n _ c.in-None.is h g (c.is_used.ensures n (Some x) k h)
