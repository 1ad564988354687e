use Rattle.std.proofs.Common.{length, arith}
use Rattle.fcg_partial.specs.Reading.{site_at}
use Rattle.fcg_partial.specs.Internal.UsedNumbers.{site_target}
use Rattle.fcg_partial.proofs.MarkRows.{mark_begin, mark_more, marks_long}
use Rattle.fcg_partial.proofs.rows.read_sites.Goals as goal

pub loop-init : goal.loop-init
loop-init c = record { rows = mark_begin site_target (site_at c.args.bytes.now (length c.args.used.now)) c.args.count c.args.at c.args.used.now; forward = omega arith; inside = c.requires }

pub loop-preserved : goal.loop-preserved
loop-preserved c =
    let read = site_at c.args.bytes.now (length c.args.used.now) in
    let long = marks_long site_target read c.loop.invariant.rows in
    let given = rw long at (c.in_ok-place.ensures.value c.loop.counter) in
    record {
      rows = mark_more site_target read c.args.count c.args.at c.args.used.now c.loop.counter c.loop.place c.loop.used given.value c.in_ok-place.place c.read_site.new.used c.loop-test.true given.read_is given.marks c.loop.invariant.rows;
      forward = (let a = c.loop.invariant.forward in let b = c.in_ok-place.ensures.forward in omega arith);
      inside = c.in_ok-place.ensures.inside;
    }
