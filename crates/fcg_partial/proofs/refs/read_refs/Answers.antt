use Rattle.std.proofs.Common.{◌≡◌, ◌+◌, length, sym, arith}
use Rattle.fcg_partial.specs.Reading.{TablePlace, ref_at}
use Rattle.fcg_partial.specs.Graph.{ref_uses}
use Rattle.fcg_partial.specs.Internal.RowPlaces.{after_row, first_row}
use Rattle.fcg_partial.proofs.MarkRows.{mark_begin, mark_more, marks_long}
use Rattle.fcg_partial.proofs.refs.read_refs.Goals as goal

pub loop-init : goal.loop-init
loop-init c = record { rows = mark_begin ref_uses (ref_at c.args.bytes.now (length c.args.used.now)) c.args.count (first_row c.args.at) c.args.used.now; size = omega arith; inside = c.requires }

pub loop-preserved : goal.loop-preserved
loop-preserved c =
    let read = ref_at c.args.bytes.now (length c.args.used.now) in
    let state : TablePlace = record { at = c.loop.place; last = c.loop.last } in
    let long = marks_long ref_uses read c.loop.invariant.rows in
    let given = rw long at (c.in_ok-row.ensures.value c.loop.counter) in
    let size : c.loop.place + 4 + 1 + 4 + 4 ≡ c.loop.place + 13 = omega arith in
    record {
      rows = mark_more ref_uses read c.args.count (first_row c.args.at) c.args.used.now c.loop.counter state c.loop.used c.in_ok-row.row (after_row (c.loop.place + 13) c.in_ok-row.row) c.read_ref.new.used c.loop-test.true (sym (rw size at given)) c.in_ok-row.ensures.marks c.loop.invariant.rows;
      size = (let s = c.loop.invariant.size in omega arith);
      inside = rw (sym size) c.in_ok-row.ensures.inside;
    }
