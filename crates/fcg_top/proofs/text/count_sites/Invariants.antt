use Rattle.std.proofs.Common.{◌≡◌, take}
use Rattle.fcg_views.specs.Valid.{sites_of_all}
use Rattle.fcg_top.proofs.text.count_sites.Given as goal

abbrev pub invariant-loop-view : goal.invariant-loop-view
invariant-loop-view l = l.count ≡ sites_of_all (take l.view-index l.views)
