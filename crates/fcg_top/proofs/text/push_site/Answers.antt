use Rattle.fcg_top.specs.Text.{site_line}
use Rattle.fcg_top.proofs.Buffered.{Sends-trans}
use Rattle.fcg_top.proofs.text.push_site.Goals as goal

pub returns : goal.returns
unfolding site_line
returns g c = Sends-trans _ _ _ _ _ _ _ _ (Sends-trans _ _ _ _ _ _ _ _ (Sends-trans _ _ _ _ _ _ _ _ c.push_front.ensures c.push_place.ensures) c.push_target.ensures) c.push.ensures
