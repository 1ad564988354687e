use Rattle.std.proofs.Common.{rules, ◌≡◌, length, refl, ◌∙◌, arith}
use Rattle.std.proofs.lemmas.Result.{err_from_is_err_and}
use Rattle.fcg_grammar.proofs.RowLemmas.{rows_fail}
use Rattle.fcg_partial.specs.Graph.{type_uses, type_targets}
use Rattle.fcg_partial.specs.Internal.UsedNumbers.{used_marks, at_place, at_state, methods_of, ReadAt}
use Rattle.fcg_partial.specs.Reading.{method_at, type_at}
use Rattle.fcg_partial.proofs.BothRows.{both_begin, both_more, both_names, both_refs, zip_append, zip_length}
use Rattle.fcg_partial.proofs.PlaceLaws.{firsts_push, methods_push}
use Rattle.fcg_partial.proofs.types.read_types.Goals as goal

pub loop-init : goal.loop-init
unfolding both_begin
loop-init c =
    rw (c.in_ok-places.ensures.types_are, c.in_ok-places.ensures.firsts_are, c.in_ok-places.ensures.methods_are) (record {
      rows = both_begin type_uses type_targets (type_at c.args.bytes.now (length c.args.names.now) (length c.args.refs.now)) at_place c.args.count c.args.at (used_marks c.args.names.now c.args.refs.now);
      firsts_are = refl;
      methods_are = tt;
      many = omega arith;
      inside = c.requires.inside;
    })

pub returns-in_err-after-clause-value : goal.returns-in_err-after-clause-value
returns-in_err-after-clause-value c =
    let p = err_from_is_err_and c.from_residual-in_err-after.result c.from_residual-in_err-after.ensures.1 in
    let read = type_at c.args.bytes.now (length c.args.names.now) (length c.args.refs.now) in
    let i = c.loop.invariant in
    let given = rw (both_names type_uses type_targets read at_place i.rows, both_refs type_uses type_targets read at_place i.rows) at (c.in_err-after.ensures.value c.loop.counter) in
    rw (p.1, p.2) (rows_fail read c.in_err-after.field-0.0 i.rows.front c.args.count c.loop.counter c.loop.place _ c.loop-test.true given i.rows.so_far)

pub loop-preserved : goal.loop-preserved
unfolding both_more
loop-preserved c =
    let n = length c.args.names.now in
    let r = length c.args.refs.now in
    let read = type_at c.args.bytes.now n r in
    let i = c.loop.invariant in
    let given = rw (both_names type_uses type_targets read at_place i.rows, both_refs type_uses type_targets read at_place i.rows) at (c.in_ok-after.ensures.value c.loop.counter) in
    let long : c.len-first.result ≡ length c.loop.places.methods.items = search rules in
    let first = long ∙ zip_length (ReadAt (method_at c.args.bytes.now n r) at_state) c.loop.places.methods.items (methods_of i.rows.front) i.methods_are in
    rw (c.in_ok-push_type.ensures.types_are, c.in_ok-push_type.ensures.firsts_are, c.in_ok-push_type.ensures.methods_are) (record {
      rows = both_more type_uses type_targets read at_place c.args.count c.args.at (used_marks c.args.names.now c.args.refs.now) c.loop.counter c.loop.place (used_marks c.loop.names c.loop.refs) c.loop.places.types.items given.type c.in_ok-after.after (used_marks c.read_type.new.names c.read_type.new.refs) c.loop-test.true given.read_is given.names given.refs i.rows;
      firsts_are = firsts_push i.rows.front given.type c.loop.places.firsts.items c.len-first.result i.firsts_are first;
      methods_are = rw (given.places_are, methods_push i.rows.front given.type) (zip_append (ReadAt (method_at c.args.bytes.now n r) at_state) c.loop.places.methods.items (methods_of i.rows.front) given.places given.type.methods i.methods_are given.places_read);
      many = (let a = i.many in let b = c.in_ok-after.ensures.few in omega arith);
      inside = c.in_ok-after.ensures.inside.1;
    })
