use Rattle.std.proofs.Common.{sym}
use Rattle.std.proofs.lemmas.Result.{err_from_is_err_and}
use Rattle.fcg_classfile.specs.Breaks.Code.{handler_at}
use Rattle.fcg_grammar.proofs.RowLemmas.{ended_goes_on, ended_fails, ended_done}
use Rattle.fcg_reader.proofs.code.pass_rows.Goals as goal

pub loop-preserved : goal.loop-preserved
loop-preserved c = (
  ended_goes_on (handler_at c.args.bytes.now) c.args.count c.loop.counter c.loop.place tt c.in_ok-place.place _ c.loop-test.true (sym (c.in_ok-place.ensures.value c.loop.counter)) c.loop.invariant.0,
  c.in_ok-place.ensures.inside,
)

pub returns-in_err-place-clause-value : goal.returns-in_err-place-clause-value
returns-in_err-place-clause-value c =
    let p = err_from_is_err_and c.from_residual.result c.from_residual.ensures.1 in
    rw (p.1, p.2) (
    sym (ended_fails (handler_at c.args.bytes.now) c.args.count c.loop.counter c.loop.place c.in_err-place.field-0.0 _ c.loop-test.true (sym (c.in_err-place.ensures.value c.loop.counter)) c.loop.invariant.0)
    )

pub returns-clause-value : goal.returns-clause-value
returns-clause-value c = sym (ended_done (handler_at c.args.bytes.now) c.args.count c.loop.counter c.loop.place _ c.loop-test.false c.loop.invariant.0)
