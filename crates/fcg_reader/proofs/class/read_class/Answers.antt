use Rattle.std.proofs.Common.{sym, ap, ◌∙◌}
use Rattle.std.specs.Prelude.{Option, Some, Ok}
use Rattle.fcg_views.specs.declared.view.View.{View}
use Rattle.fcg_reader.proofs.class.read_class.Goals as goal

pub returns-in-Some-clause-only : goal.returns-in-Some-clause-only
returns-in-Some-clause-only c = λ view reads. c.in_ok-numbered.ensures.only view reads ∙ ap (λ (v : Option View). Ok v) (c.in-Some.is ∙ ap (λ (v : View). Some v) (sym c.into_view.ensures))

pub returns-in-None-clause-only : goal.returns-in-None-clause-only
returns-in-None-clause-only c = λ view reads. c.in_ok-numbered.ensures.only view reads ∙ ap (λ (v : Option View). Ok v) c.in-None.is
