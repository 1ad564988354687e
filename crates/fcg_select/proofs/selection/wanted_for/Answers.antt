use Rattle.std.proofs.Common.{sym, ◌∙◌}
use Rattle.std.specs.Prelude.{Some}
use Rattle.fcg_select.proofs.Selecting.{wanted_open, wanted_handed, wanted_in}
use Rattle.fcg_select.proofs.selection.wanted_for.Goals as goal

pub returns-then-is_open_to_all-clause-overrides : goal.returns-then-is_open_to_all-clause-overrides
returns-then-is_open_to_all-clause-overrides c = λ d a k h i p.
    wanted_open _ c.tell_apart.ensures _ _ d k a h i p _ c.method_flags.ensures (sym c.is_open_to_all.ensures ∙ c.if-is_open_to_all.true)

pub returns-then-is_handed_on-clause-overrides : goal.returns-then-is_handed_on-clause-overrides
returns-then-is_handed_on-clause-overrides c = λ d a k h i p.
    wanted_handed _ c.tell_apart.ensures _ _ d k a h i p _ c.method_flags.ensures (sym c.is_open_to_all.ensures ∙ c.if-is_open_to_all.false)
    _ (c.is_handed_on.ensures a h (Some d) k) c.if-is_handed_on.true

pub returns-clause-overrides : goal.returns-clause-overrides
returns-clause-overrides c = λ d a k h i p.
    wanted_in _ c.tell_apart.ensures _ _ d k a h i p _ c.method_flags.ensures (sym c.is_open_to_all.ensures ∙ c.if-is_open_to_all.false)
    _ (c.is_handed_on.ensures a h (Some d) k) c.if-is_handed_on.false _ (c.owner.ensures.value a h)
