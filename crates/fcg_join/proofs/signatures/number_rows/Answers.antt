use Rattle.std.proofs.Common.{length, ap, ◌∙◌, arith}
use Rattle.fcg_join.proofs.SignatureRows.{set_all_long, set_rows_next}
use Rattle.fcg_join.proofs.signatures.number_rows.Goals as goal

pub loop-s-preserved : goal.loop-s-preserved
loop-s-preserved c = (
  ap (λ ns. length ns) c.number_row.ensures ∙ set_all_long c.loop-s.s c.row.result.now c.loop-s.numbers.items ∙ c.loop-s.invariant.0,
  set_rows_next c.args.rows.now c.loop-s.s c.row.result.now c.loop-s.numbers.items c.number_row.new.numbers.items (omega (arith, c.loop-s-test.true, c.len-s-end.ensures)) c.row.ensures c.number_row.ensures ∙ c.loop-s.invariant.1,
)
