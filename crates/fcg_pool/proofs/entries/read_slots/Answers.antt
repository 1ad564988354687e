use Rattle.std.proofs.Common.{◌≤◌, ◌∷◌, [], map, sym, arith, length-append}
use Rattle.std.proofs.lemmas.List.{map-append}
use Rattle.std.proofs.lemmas.Result.{err_from_is_err_and}
use Rattle.std.proofs.lemmas.List.Elements.{All-push}
use Rattle.fcg_classfile.specs.Breaks.Pool.{slot_at}
use Rattle.fcg_pool.specs.Internal.ConstantAt.{slot_in, IsInside}
use Rattle.fcg_pool.specs.Internal.Entry.{next_of}
use Rattle.fcg_grammar.proofs.RowLemmas.{rows_go_on, rows_end, rows_done}
use Rattle.fcg_pool.proofs.entries.read_slots.Goals as goal

pub returns-in_err-place-clause-value : goal.returns-in_err-place-clause-value
returns-in_err-place-clause-value c =
    let p = err_from_is_err_and c.from_residual-in_err-place.result c.from_residual-in_err-place.ensures.1 in
    rw (p.1, p.2) (rows_end (slot_at c.args.bytes.now) (map (slot_in c.args.bytes.now) c.loop-index.places.items) c.args.count c.loop-index.index (next_of c.loop-index.next) _ _ c.loop-index-test.true (sym c.in_err-place.ensures.value) c.loop-index.invariant.0)

pub loop-index-preserved : goal.loop-index-preserved
loop-index-preserved c =
    let slots_are = map-append (slot_in c.args.bytes.now) c.loop-index.places.items (c.in_ok-place.place ∷ []) in
    let onward = rows_go_on (slot_at c.args.bytes.now) (map (slot_in c.args.bytes.now) c.loop-index.places.items) c.args.count c.loop-index.index (next_of c.loop-index.next) _ _ _ c.loop-index-test.true (sym c.in_ok-place.ensures.value) c.loop-index.invariant.0 in
    rw c.in_ok-push.ensures.items (
      rw slots_are onward,
      c.in_ok-place.ensures.inside.0,
      All-push (IsInside c.args.bytes.now) c.loop-index.places.items _ c.loop-index.invariant.2 c.in_ok-place.ensures.inside.1,
      omega (arith, length-append c.loop-index.places.items (c.in_ok-place.place ∷ [])),
      omega arith,
    )

pub returns-clause-value : goal.returns-clause-value
returns-clause-value c = rows_done (slot_at c.args.bytes.now) (map (slot_in c.args.bytes.now) c.loop-index.places.items) c.args.count c.loop-index.index (next_of c.loop-index.next) _ c.loop-index-test.false c.loop-index.invariant.0

pub returns-clause-inside : goal.returns-clause-inside
returns-clause-inside c =
    let small : c.loop-index.index ≤ 65535 = c.loop-index.invariant.4 in
    (c.loop-index.invariant.1, record { inside = c.loop-index.invariant.2; few = omega (arith, c.loop-index.invariant.3) })
