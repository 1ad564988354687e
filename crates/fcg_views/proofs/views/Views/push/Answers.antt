use Rattle.std.proofs.Common.{◌≡◌, OnErr, IfSome, subst, sym}
use Rattle.std.specs.List.{AllZip}
use Rattle.fcg_views.specs.NamesIn.{HasNames}
use Rattle.fcg_views.proofs.views.Views.push.Goals as goal

pub invariant_of-self-in_err-push_names : goal.invariant_of-self-in_err-push_names
invariant_of-self-in_err-push_names c = subst (λ views. IfSome c.push_names.new.lists (λ lists. AllZip HasNames views lists.items)) (sym c.reserve.ensures.items)
    (subst (λ result. OnErr result (IfSome c.push_names.new.lists (λ lists. AllZip HasNames c.self.inside.views.items lists.items))) c.in_err-push_names.was (c.push_names.ensures.err c.self.inside.views.items c.self.invariant))
