use Rattle.std.proofs.Common.{All, subst}
use Rattle.std.proofs.lemmas.List.{take_all}
use Rattle.std.proofs.lemmas.List.Elements.{All-nil}
use Rattle.fcg_views.specs.NamesIn.{names_in}
use Rattle.fcg_partial.specs.Internal.Written.{written_type}
use Rattle.fcg_partial.specs.SmallNumbers.{IsSmallView}
use Rattle.fcg_partial.proofs.WrittenLaws.{all_more}
use Rattle.fcg_partial.proofs.NumberedLaws.{none_yet, one_more, all_done}
use Rattle.fcg_partial.proofs.write.push_types.Goals as goal

pub loop-view-init : goal.loop-view-init
loop-view-init c = record { text = none_yet names_in (λ names. written_type names c.args.refs.now) c.args.views.now c.args.out.now.items c.args.numbers.now; small = All-nil IsSmallView }

pub loop-view-preserved : goal.loop-view-preserved
loop-view-preserved c = record {
  text = one_more names_in (λ names. written_type names c.args.refs.now) c.args.views.now c.loop-view.view-index c.args.out.now.items c.loop-view.out.items c.args.numbers.now c.loop-view.numbers c.loop-view.invariant.text c.view-item.result c.loop-view-test.true c.view-item.is c.push_type.new.out.items c.push_type.new.numbers c.in_ok-push_type.ensures.text;
  small = all_more c.args.views.now c.loop-view.view-index c.view-item.result c.loop-view-test.true c.view-item.is IsSmallView c.loop-view.invariant.small c.in_ok-push_type.ensures.small;
}

pub returns-clause-text : goal.returns-clause-text
returns-clause-text c = all_done names_in (λ names. written_type names c.args.refs.now) c.args.views.now c.loop-view.view-index c.args.out.now.items c.loop-view.out.items c.args.numbers.now c.loop-view.numbers c.loop-view.invariant.text c.loop-view-test.false

pub returns-clause-small : goal.returns-clause-small
returns-clause-small c = subst (All IsSmallView) (take_all c.loop-view.view-index c.args.views.now c.loop-view-test.false) c.loop-view.invariant.small
