use Rattle.fcg_top.proofs.Buffered.{Holds-front, Holds-whole, on_err_map, on_ok_map, sent}
use Rattle.fcg_top.proofs.command.write_listing.Goals as goal

pub returns-clause-ok : goal.returns-clause-ok
returns-clause-ok g c =
    let h = sent _ _ _ _ _ _ _ c.requires.fresh c.push_listing.ensures c.finish.ensures.sends in
    on_ok_map c.finish.result c.finish.ensures.ok (λ unfailed. Holds-whole _ _ _ _ h unfailed c.finish.ensures.empty)

pub returns-clause-failed : goal.returns-clause-failed
returns-clause-failed g c =
    let h = sent _ _ _ _ _ _ _ c.requires.fresh c.push_listing.ensures c.finish.ensures.sends in
    on_err_map c.finish.result c.finish.ensures.failed (λ failed. (Holds-front _ _ _ _ h, h.cause failed))

pub returns-clause-later : goal.returns-clause-later
returns-clause-later g c = (sent _ _ _ _ _ _ _ c.requires.fresh c.push_listing.ensures c.finish.ensures.sends).later

pub returns-clause-aside : goal.returns-clause-aside
returns-clause-aside g c = (sent _ _ _ _ _ _ _ c.requires.fresh c.push_listing.ensures c.finish.ensures.sends).aside
