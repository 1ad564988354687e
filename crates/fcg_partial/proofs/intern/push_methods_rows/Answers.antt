use Rattle.fcg_views.specs.NamesIn.{names_of_method}
use Rattle.fcg_partial.specs.Internal.Written.{method_rows}
use Rattle.fcg_partial.proofs.NumberedLaws.{none_yet, one_more, all_done}
use Rattle.fcg_partial.proofs.intern.push_methods_rows.Goals as goal

pub loop-method-init : goal.loop-method-init
loop-method-init c = none_yet names_of_method method_rows c.args.methods.now c.args.rows.now.items c.args.numbers.now

pub loop-method-preserved : goal.loop-method-preserved
loop-method-preserved c = one_more names_of_method method_rows c.args.methods.now c.loop-method.method-index c.args.rows.now.items c.loop-method.rows.items c.args.numbers.now c.loop-method.numbers c.loop-method.invariant c.method-item.result c.loop-method-test.true c.method-item.is c.push_method_rows.new.rows.items c.push_method_rows.new.numbers c.in_ok-push_method_rows.ensures

pub returns : goal.returns
returns c = all_done names_of_method method_rows c.args.methods.now c.loop-method.method-index c.args.rows.now.items c.loop-method.rows.items c.args.numbers.now c.loop-method.numbers c.loop-method.invariant c.loop-method-test.false
