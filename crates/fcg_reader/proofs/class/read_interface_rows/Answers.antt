use Rattle.std.proofs.Common.{◌∷◌, [], map, sym}
use Rattle.std.proofs.lemmas.List.{map-append}
use Rattle.std.proofs.lemmas.Result.{err_from_is_err_and}
use Rattle.fcg_classfile.specs.Breaks.Class.{interface_at}
use Rattle.fcg_grammar.proofs.RowLemmas.{rows_go_on, rows_end}
use Rattle.fcg_reader.specs.Internal.Rows.{text_in}
use Rattle.fcg_reader.proofs.class.read_interface_rows.Goals as goal

pub returns-in_err-name-clause-value : goal.returns-in_err-name-clause-value
returns-in_err-name-clause-value c =
    let p = err_from_is_err_and c.from_residual-in_err-name.result c.from_residual-in_err-name.ensures.1 in
    rw (p.1, p.2) (rows_end (interface_at c.args.pool.now) (map (text_in c.args.pool.now) c.loop.interfaces.items) c.args.count c.loop.counter c.loop.place c.in_err-name.field-0.0 _ c.loop-test.true (sym (c.in_err-name.ensures.value c.loop.counter)) c.loop.invariant.0)

pub loop-preserved : goal.loop-preserved
loop-preserved c =
    let text = text_in c.args.pool.now in
    rw (c.in_ok-push.ensures.items, map-append text c.loop.interfaces.items (c.in_ok-name.name ∷ [])) (
      rows_go_on (interface_at c.args.pool.now) (map text c.loop.interfaces.items) c.args.count c.loop.counter c.loop.place _ _ _ c.loop-test.true (sym (c.in_ok-name.ensures.value c.loop.counter)) c.loop.invariant.0,
      c.in_ok-name.ensures.inside,
    )
