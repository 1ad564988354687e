use Rattle.std.proofs.Common.{All, subst}
use Rattle.std.proofs.lemmas.List.{take_all}
use Rattle.std.proofs.lemmas.List.Elements.{All-nil}
use Rattle.fcg_views.specs.NamesIn.{names_of_method}
use Rattle.fcg_partial.specs.Internal.Written.{written_method}
use Rattle.fcg_partial.specs.SmallNumbers.{IsSmallMethod}
use Rattle.fcg_partial.proofs.WrittenLaws.{all_more}
use Rattle.fcg_partial.proofs.NumberedLaws.{none_yet, one_more, all_done}
use Rattle.fcg_partial.proofs.write.push_methods.Goals as goal

pub loop-method-init : goal.loop-method-init
loop-method-init c = record { text = none_yet names_of_method (λ names. written_method names c.args.refs.now) c.args.methods.now c.args.out.now.items c.args.numbers.now; small = All-nil IsSmallMethod }

pub loop-method-preserved : goal.loop-method-preserved
loop-method-preserved c = record {
  text = one_more names_of_method (λ names. written_method names c.args.refs.now) c.args.methods.now c.loop-method.method-index c.args.out.now.items c.loop-method.out.items c.args.numbers.now c.loop-method.numbers c.loop-method.invariant.text c.method-item.result c.loop-method-test.true c.method-item.is c.push_method.new.out.items c.push_method.new.numbers c.in_ok-push_method.ensures.text;
  small = all_more c.args.methods.now c.loop-method.method-index c.method-item.result c.loop-method-test.true c.method-item.is IsSmallMethod c.loop-method.invariant.small c.in_ok-push_method.ensures.small;
}

pub returns-clause-text : goal.returns-clause-text
returns-clause-text c = all_done names_of_method (λ names. written_method names c.args.refs.now) c.args.methods.now c.loop-method.method-index c.args.out.now.items c.loop-method.out.items c.args.numbers.now c.loop-method.numbers c.loop-method.invariant.text c.loop-method-test.false

pub returns-clause-small : goal.returns-clause-small
returns-clause-small c = subst (All IsSmallMethod) (take_all c.loop-method.method-index c.args.methods.now c.loop-method-test.false) c.loop-method.invariant.small
