use Rattle.fcg_make.specs.Needs.{row_needs}
use Rattle.fcg_make.proofs.AddLemmas.{added_more}
use Rattle.fcg_make.proofs.needs.add_row_list.Goals as goal

pub loop-row-preserved : goal.loop-row-preserved
loop-row-preserved c = added_more row_needs c.args.table.now c.loop-row.table c.add_row.new.table c.args.rows.now c.loop-row.row-index c.row-item.result c.loop-row-test.true c.row-item.is c.loop-row.invariant c.in_ok-add_row.ensures
