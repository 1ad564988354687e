use Rattle.std.proofs.Common.{sym, ◌∙◌}
use Rattle.fcg_select.proofs.Selecting.{of_failed, of_phantom, of_private, of_method}
use Rattle.fcg_select.proofs.selection.select_as.Goals as goal

pub returns-in-Failed-clause-value : goal.returns-in-Failed-clause-value
returns-in-Failed-clause-value c = λ d o sig k h g. of_failed _ _ _ d _ o c.in-Failed.is h

pub returns-in-Phantom-clause-value : goal.returns-in-Phantom-clause-value
returns-in-Phantom-clause-value c = λ d o sig k h g. of_phantom _ c.tell_apart.ensures _ _ d _ o _ c.in-Phantom.is k h (c.select_wanted.ensures.value d sig k g)

pub returns-then-is_private-clause-value : goal.returns-then-is_private-clause-value
returns-then-is_private-clause-value c = λ d o sig k h g. of_private _ _ _ d _ o _ c.in-Method.is c.method_flags.ensures (sym c.is_private.ensures ∙ c.if-is_private.true) h

pub returns-else-is_private-clause-value : goal.returns-else-is_private-clause-value
returns-else-is_private-clause-value c = λ d o sig k h g.
    of_method _ _ _ d _ _ o _ _ _ c.in-Method.is c.method_flags.ensures (sym c.is_private.ensures ∙ c.if-is_private.false) c.requires.method g
    (λ a x. c.wanted_for-wanted.ensures.overrides d a k x) (c.select_wanted-in-Method.ensures.value d sig k g) h
