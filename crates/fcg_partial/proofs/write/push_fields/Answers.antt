use Rattle.std.proofs.lemmas.List.Elements.{All-nil}
use Rattle.fcg_views.specs.NamesIn.{names_of_field}
use Rattle.fcg_partial.specs.Internal.Written.{written_field}
use Rattle.fcg_partial.specs.SmallNumbers.{IsSmallField}
use Rattle.fcg_partial.proofs.WrittenLaws.{all_more}
use Rattle.fcg_partial.proofs.NumberedLaws.{none_yet, one_more, all_done}
use Rattle.fcg_partial.proofs.write.push_fields.Goals as goal

pub loop-field-init : goal.loop-field-init
loop-field-init c = record { text = none_yet names_of_field written_field c.args.fields.now c.args.out.now.items c.args.numbers.now; small = All-nil IsSmallField }

pub loop-field-preserved : goal.loop-field-preserved
loop-field-preserved c = record {
  text = one_more names_of_field written_field c.args.fields.now c.loop-field.field-index c.args.out.now.items c.loop-field.out.items c.args.numbers.now c.loop-field.numbers c.loop-field.invariant.text c.field-item.result c.loop-field-test.true c.field-item.is c.push_field.new.out.items c.push_field.new.numbers c.in_ok-push_field.ensures.text;
  small = all_more c.args.fields.now c.loop-field.field-index c.field-item.result c.loop-field-test.true c.field-item.is IsSmallField c.loop-field.invariant.small c.in_ok-push_field.ensures.small;
}

pub returns-clause-text : goal.returns-clause-text
returns-clause-text c = all_done names_of_field written_field c.args.fields.now c.loop-field.field-index c.args.out.now.items c.loop-field.out.items c.args.numbers.now c.loop-field.numbers c.loop-field.invariant.text c.loop-field-test.false
