use Rattle.std.proofs.Common.{length, arith}
use Rattle.fcg_partial.specs.Reading.{interface_at}
use Rattle.fcg_partial.specs.Internal.UsedNumbers.{one_use}
use Rattle.fcg_partial.proofs.MarkRows.{mark_begin, mark_more, marks_long}
use Rattle.fcg_partial.proofs.rows.read_interfaces.Goals as goal

pub loop-init : goal.loop-init
loop-init c = record { rows = mark_begin one_use (interface_at c.args.bytes.now (length c.args.used.now)) c.args.count c.args.at c.args.used.now; forward = omega arith; inside = c.requires }

pub loop-preserved : goal.loop-preserved
loop-preserved c =
    let read = interface_at c.args.bytes.now (length c.args.used.now) in
    let long = marks_long one_use read c.loop.invariant.rows in
    let given = rw long at (c.in_ok-place.ensures.value c.loop.counter) in
    record {
      rows = mark_more one_use read c.args.count c.args.at c.args.used.now c.loop.counter c.loop.place c.loop.used given.value c.in_ok-place.place c.read_interface.new.used c.loop-test.true given.read_is given.marks c.loop.invariant.rows;
      forward = (let a = c.loop.invariant.forward in let b = c.in_ok-place.ensures.forward in omega arith);
      inside = c.in_ok-place.ensures.inside;
    }
