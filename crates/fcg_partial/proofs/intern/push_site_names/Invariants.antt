use Rattle.std.proofs.Common.{◌≡◌, ◌++◌, take}
use Rattle.std.specs.List.{flat_map}
use Rattle.fcg_views.specs.NamesIn.{names_of_site}
use Rattle.fcg_partial.proofs.intern.push_site_names.Given as goal

abbrev pub invariant-loop-site : goal.invariant-loop-site
invariant-loop-site l = l.names ≡ l.fn.names ++ flat_map names_of_site (take l.site-index l.sites)
