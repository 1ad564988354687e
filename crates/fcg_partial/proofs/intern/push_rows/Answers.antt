use Rattle.fcg_views.specs.NamesIn.{names_in}
use Rattle.fcg_partial.specs.Internal.Written.{view_rows}
use Rattle.fcg_partial.proofs.NumberedLaws.{none_yet, one_more, all_done}
use Rattle.fcg_partial.proofs.intern.push_rows.Goals as goal

pub loop-view-init : goal.loop-view-init
loop-view-init c = none_yet names_in view_rows c.args.views.now c.args.rows.now.items c.args.numbers.now

pub loop-view-preserved : goal.loop-view-preserved
loop-view-preserved c = one_more names_in view_rows c.args.views.now c.loop-view.view-index c.args.rows.now.items c.loop-view.rows.items c.args.numbers.now c.loop-view.numbers c.loop-view.invariant c.view-item.result c.loop-view-test.true c.view-item.is c.push_view_rows.new.rows.items c.push_view_rows.new.numbers c.in_ok-push_view_rows.ensures

pub returns : goal.returns
returns c = all_done names_in view_rows c.args.views.now c.loop-view.view-index c.args.rows.now.items c.loop-view.rows.items c.args.numbers.now c.loop-view.numbers c.loop-view.invariant c.loop-view-test.false
