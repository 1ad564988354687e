use Rattle.fcg_views.specs.NamesIn.{names_of_site}
use Rattle.fcg_partial.specs.Internal.Written.{site_rows}
use Rattle.fcg_partial.proofs.NumberedLaws.{IsSoFar}
use Rattle.fcg_partial.proofs.intern.push_site_rows.Given as goal

abbrev pub invariant-loop-site : goal.invariant-loop-site
invariant-loop-site l = IsSoFar names_of_site site_rows l.sites l.site-index l.fn.rows.items l.rows.items l.fn.numbers l.numbers
