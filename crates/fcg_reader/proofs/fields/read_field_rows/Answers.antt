use Rattle.std.proofs.Common.{◌∷◌, [], map, sym, ◌∙◌}
use Rattle.std.proofs.lemmas.List.{map-append}
use Rattle.std.proofs.lemmas.Result.{err_from_is_err_and}
use Rattle.fcg_classfile.specs.Breaks.Members.{field_at}
use Rattle.fcg_grammar.proofs.RowLemmas.{rows_go_on, rows_end}
use Rattle.fcg_reader.specs.Internal.Rows.{field_in}
use Rattle.fcg_reader.proofs.fields.read_field_rows.Goals as goal

pub returns-in_err-field-clause-value : goal.returns-in_err-field-clause-value
returns-in_err-field-clause-value c =
    let p = err_from_is_err_and c.from_residual-in_err-field.result c.from_residual-in_err-field.ensures.1 in
    let given = rw c.loop.invariant.2 at (c.in_err-field.ensures.value c.loop.counter) in
    rw (p.1, p.2) (rows_end (field_at c.args.names.now) (map (field_in c.args.names.now) c.loop.fields.items) c.args.count c.loop.counter c.loop.place c.in_err-field.field-0.0 _ c.loop-test.true (sym given) c.loop.invariant.0)

pub loop-preserved : goal.loop-preserved
loop-preserved c =
    let field = field_in c.args.names.now in
    let given = rw c.loop.invariant.2 at (c.in_ok-field.ensures.value c.loop.counter) in
    let same = c.in_ok-field.ensures.same ∙ c.loop.invariant.2 in
    rw (c.in_ok-push.ensures.items, map-append field c.loop.fields.items (c.in_ok-field.field ∷ [])) (
      rows_go_on (field_at c.args.names.now) (map field c.loop.fields.items) c.args.count c.loop.counter c.loop.place _ _ _ c.loop-test.true (sym given) c.loop.invariant.0,
      rw c.in_ok-field.ensures.same c.in_ok-field.ensures.inside,
      same,
    )
