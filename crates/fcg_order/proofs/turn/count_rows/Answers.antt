use Rattle.std.proofs.Common.{length, ap, arith}
use Rattle.fcg_order.proofs.TurnLaws.{wider}
use Rattle.fcg_order.proofs.turn.count_rows.Goals as goal

pub count_row-requires-clause-rows : goal.count_row-requires-clause-rows
count_row-requires-clause-rows c =
    let e = ap (λ xs. length xs) c.deref_mut.ensures.value in
    let m = c.loop-x.invariant.long in
    wider c.args.rows.now c.args.count _ (omega (arith, e)) c.requires.rows
