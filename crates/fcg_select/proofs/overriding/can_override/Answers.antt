use Rattle.std.proofs.Common.{sym, ◌∙◌}
use Rattle.fcg_select.proofs.OverLaws.{never, always, not_private, shared, apart_by}
use Rattle.fcg_select.proofs.overriding.can_override.Goals as goal

pub returns-then-not-is_candidate : goal.returns-then-not-is_candidate
returns-then-not-is_candidate c = never _ c.tell_apart.ensures _ _ _ c.is_candidate.ensures c.if-not-is_candidate.true

pub returns-then-is_open_to_all : goal.returns-then-is_open_to_all
returns-then-is_open_to_all c =
    always _ c.tell_apart.ensures _ _ _ c.is_candidate.ensures c.if-not-is_candidate.false _ c.method_flags-flags.ensures (sym c.is_open_to_all.ensures ∙ c.if-is_open_to_all.true)

pub returns-then-is_private : goal.returns-then-is_private
returns-then-is_private c =
    not_private _ c.tell_apart.ensures _ _ _ c.is_candidate.ensures c.if-not-is_candidate.false _ c.method_flags-flags.ensures
    (sym c.is_open_to_all.ensures ∙ c.if-is_open_to_all.false) (sym c.is_private.ensures ∙ c.if-is_private.true)

pub returns-then-is_package_shared : goal.returns-then-is_package_shared
returns-then-is_package_shared c = λ n a h k.
    c.if-is_package_shared.true ∙ shared _ c.tell_apart.ensures _ _ _ c.is_candidate.ensures c.if-not-is_candidate.false _ c.method_flags-flags.ensures
    (sym c.is_open_to_all.ensures ∙ c.if-is_open_to_all.false) (sym c.is_private.ensures ∙ c.if-is_private.false)
    _ c.is_package_shared.ensures c.if-is_package_shared.true n a h k

pub returns-else-is_package_shared : goal.returns-else-is_package_shared
returns-else-is_package_shared c =
    apart_by _ c.tell_apart.ensures _ _ _ c.is_candidate.ensures c.if-not-is_candidate.false _ c.method_flags-flags.ensures
    (sym c.is_open_to_all.ensures ∙ c.if-is_open_to_all.false) (sym c.is_private.ensures ∙ c.if-is_private.false)
    _ c.is_package_shared.ensures c.if-is_package_shared.false
    _ (λ n a h k. c.is_handed_on.ensures a k _ (c.chain_next.ensures.value n.owner (c.owner.ensures.value n h)))
