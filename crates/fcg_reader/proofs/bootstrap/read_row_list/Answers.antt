use Rattle.std.proofs.lemmas.Result.{err_from_is_err_and}
use Rattle.fcg_classfile.specs.Breaks.Bootstrap.{row_at}
use Rattle.fcg_grammar.proofs.RowLemmas.{rows_go_on, rows_fail}
use Rattle.fcg_reader.proofs.bootstrap.read_row_list.Goals as goal

pub returns-in_err-row-clause-value : goal.returns-in_err-row-clause-value
returns-in_err-row-clause-value c =
    let p = err_from_is_err_and c.from_residual.result c.from_residual.ensures.1 in
    rw (p.1, p.2) (rows_fail (row_at c.args.bytes.now) c.in_err-row.field-0.0 c.loop.list.items c.args.count c.loop.counter c.loop.place _ c.loop-test.true (c.in_err-row.ensures.value c.loop.counter) c.loop.invariant.0)

pub loop-preserved : goal.loop-preserved
loop-preserved c =
    rw c.in_ok-push.ensures.items (
      rows_go_on (row_at c.args.bytes.now) c.loop.list.items c.args.count c.loop.counter c.loop.place _ _ _ c.loop-test.true (c.in_ok-row.ensures.value c.loop.counter) c.loop.invariant.0,
      c.in_ok-row.ensures.inside,
    )
