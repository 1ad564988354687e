use Rattle.std.proofs.Common.{take, All}
use Rattle.fcg_views.specs.NamesIn.{names_of_site}
use Rattle.fcg_partial.specs.Internal.Written.{written_site}
use Rattle.fcg_partial.specs.SmallNumbers.{IsSmallSite}
use Rattle.fcg_partial.proofs.NumberedLaws.{IsSoFar}
use Rattle.fcg_partial.proofs.write.push_sites.Given as goal

abbrev pub invariant-loop-site : goal.invariant-loop-site
invariant-loop-site l = record {
  text : IsSoFar names_of_site (λ names. written_site names l.refs) l.sites l.site-index l.fn.out.items l.out.items l.fn.numbers l.numbers;
  small : All IsSmallSite (take l.site-index l.sites);
}
