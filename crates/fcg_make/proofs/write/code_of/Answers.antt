use Rattle.std.proofs.Common.{sym, ◌∙◌, arith}
use Rattle.fcg_make.proofs.WriteLemmas.{code_more, rows_left, one_row, no_row}
use Rattle.fcg_make.proofs.write.code_of.Goals as goal

pub loop-step-preserved-then-is_handle : goal.loop-step-preserved-then-is_handle
loop-step-preserved-then-is_handle c =
    let inv = c.loop-step.invariant in
    let split = c.in-Some.ensures.0 in
    let site = c.first-site.ensures in
    let next = one_row c.loop-step.row c.in-Some.step c.first-site.result.now site (sym c.is_handle.ensures ∙ c.if-is_handle.true) in (
      code_more c.args.table.now _ c.loop-step.code.items c.push_step.new.out.items c.loop-step.at c.loop-step.row _ _ _ _ c.in-Some.step c.first-site.result.now split site c.in_ok-push_step.ensures (omega (arith, c.from.ensures, c.size_of.ensures.value)) next inv.0,
      rows_left _ c.loop-step.row _ _ _ c.in-Some.step split next inv.1,
    )

pub loop-step-preserved : goal.loop-step-preserved
loop-step-preserved c =
    let inv = c.loop-step.invariant in
    let split = c.in-Some.ensures.0 in
    let site = c.first-site.ensures in
    let next = no_row c.loop-step.row c.in-Some.step c.first-site.result.now site (sym c.is_handle.ensures ∙ c.if-is_handle.false) in (
      code_more c.args.table.now _ c.loop-step.code.items c.push_step.new.out.items c.loop-step.at c.loop-step.row _ _ _ _ c.in-Some.step c.first-site.result.now split site c.in_ok-push_step.ensures (omega (arith, c.from.ensures, c.size_of.ensures.value)) next inv.0,
      rows_left _ c.loop-step.row _ _ _ c.in-Some.step split next inv.1,
    )
