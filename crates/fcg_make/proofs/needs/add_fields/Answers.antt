use Rattle.fcg_make.specs.Needs.{field_needs}
use Rattle.fcg_make.proofs.AddLemmas.{added_more}
use Rattle.fcg_make.proofs.needs.add_fields.Goals as goal

pub loop-field-preserved : goal.loop-field-preserved
loop-field-preserved c = added_more field_needs c.args.table.now c.loop-field.table c.add_field.new.table c.args.fields.now c.loop-field.field-index c.field-item.result c.loop-field-test.true c.field-item.is c.loop-field.invariant c.in_ok-add_field.ensures
