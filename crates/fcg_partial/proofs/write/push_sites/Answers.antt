use Rattle.std.proofs.lemmas.List.Elements.{All-nil}
use Rattle.fcg_views.specs.NamesIn.{names_of_site}
use Rattle.fcg_partial.specs.Internal.Written.{written_site}
use Rattle.fcg_partial.specs.SmallNumbers.{IsSmallSite}
use Rattle.fcg_partial.proofs.WrittenLaws.{all_more}
use Rattle.fcg_partial.proofs.NumberedLaws.{none_yet, one_more, all_done}
use Rattle.fcg_partial.proofs.write.push_sites.Goals as goal

pub loop-site-init : goal.loop-site-init
loop-site-init c = record { text = none_yet names_of_site (λ names. written_site names c.args.refs.now) c.args.sites.now c.args.out.now.items c.args.numbers.now; small = All-nil IsSmallSite }

pub loop-site-preserved : goal.loop-site-preserved
loop-site-preserved c = record {
  text = one_more names_of_site (λ names. written_site names c.args.refs.now) c.args.sites.now c.loop-site.site-index c.args.out.now.items c.loop-site.out.items c.args.numbers.now c.loop-site.numbers c.loop-site.invariant.text c.site-item.result c.loop-site-test.true c.site-item.is c.push_site.new.out.items c.push_site.new.numbers c.in_ok-push_site.ensures.text;
  small = all_more c.args.sites.now c.loop-site.site-index c.site-item.result c.loop-site-test.true c.site-item.is IsSmallSite c.loop-site.invariant.small c.in_ok-push_site.ensures.small;
}

pub returns-clause-text : goal.returns-clause-text
returns-clause-text c = all_done names_of_site (λ names. written_site names c.args.refs.now) c.args.sites.now c.loop-site.site-index c.args.out.now.items c.loop-site.out.items c.args.numbers.now c.loop-site.numbers c.loop-site.invariant.text c.loop-site-test.false
