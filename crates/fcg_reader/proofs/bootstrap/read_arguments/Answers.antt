use Rattle.std.proofs.Common.{sym}
use Rattle.std.proofs.lemmas.Result.{err_from_is_err_and}
use Rattle.fcg_classfile.specs.Breaks.Bootstrap.{argument_at}
use Rattle.fcg_grammar.proofs.RowLemmas.{rows_go_on, rows_end}
use Rattle.fcg_reader.proofs.bootstrap.read_arguments.Goals as goal

pub returns-in_err-index-clause-value : goal.returns-in_err-index-clause-value
returns-in_err-index-clause-value c =
    let p = err_from_is_err_and c.from_residual.result c.from_residual.ensures.1 in
    rw (p.1, p.2) (rows_end (argument_at c.args.bytes.now) c.loop.arguments.items c.args.count c.loop.counter c.loop.place c.in_err-index.field-0.0 _ c.loop-test.true (sym (c.in_err-index.ensures.value c.loop.counter)) c.loop.invariant.0)

pub loop-preserved : goal.loop-preserved
loop-preserved c =
    rw c.in_ok-push.ensures.items (
      rows_go_on (argument_at c.args.bytes.now) c.loop.arguments.items c.args.count c.loop.counter c.loop.place _ _ _ c.loop-test.true (sym (c.in_ok-index.ensures.value c.loop.counter)) c.loop.invariant.0,
      c.in_ok-index.ensures.inside,
    )
