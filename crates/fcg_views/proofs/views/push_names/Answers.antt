use Rattle.std.proofs.Common.{rules, ◌≡◌, ◌++◌, ◌∷◌, [], IfSome, subst, sym}
use Rattle.std.specs.List.{AllZip}
use Rattle.std.proofs.lemmas.Slice.Zip.{all_zipped_more}
use Rattle.fcg_views.specs.NamesIn.{HasNames}
use Rattle.fcg_views.proofs.views.push_names.Goals as goal

pub returns-in_ok-push-clause-ok : goal.returns-in_ok-push-clause-ok
returns-in_ok-push-clause-ok c views view old named = subst (λ lists. AllZip HasNames (views ++ view ∷ []) lists) (sym c.in_ok-push.ensures.items)
    (all_zipped_more HasNames views c.in-Some.lists.items view c.args.names (subst (λ lists. IfSome lists (λ kept. AllZip HasNames views kept.items)) c.in-Some.is old) named)
