use Rattle.fcg_make.proofs.AddLemmas.{methods_more, rows_more}
use Rattle.fcg_make.proofs.needs.add_methods.Goals as goal

pub loop-method-preserved : goal.loop-method-preserved
loop-method-preserved c =
    let split = c.in-Some.ensures.cases.0 in
    let next = c.in_ok-row.ensures.row in
    let inv = c.loop-method.invariant in (
      methods_more _ c.loop-method.table c.add_method.new.table c.loop-method.row c.in_ok-row.row c.loop-method.rest.now c.in-Some.others.now c.in-Some.method.now split c.in_ok-row.ensures.table next inv.0,
      rows_more _ c.loop-method.row c.in_ok-row.row c.loop-method.rest.now c.in-Some.others.now c.in-Some.method.now split next inv.1,
    )
