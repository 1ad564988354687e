use Rattle.fcg_make.specs.Needs.{type_needs}
use Rattle.fcg_make.proofs.AddLemmas.{added_more}
use Rattle.fcg_make.proofs.needs.add_types.Goals as goal

pub loop-name-preserved : goal.loop-name-preserved
loop-name-preserved c = added_more type_needs c.args.table.now c.loop-name.table c.add_type.new.table c.args.names.now c.loop-name.name-index c.name-item.result c.loop-name-test.true c.name-item.is c.loop-name.invariant c.in_ok-add_type.ensures
