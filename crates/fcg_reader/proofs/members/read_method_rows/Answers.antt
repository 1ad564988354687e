use Rattle.std.proofs.Common.{◌∙◌}
use Rattle.fcg_reader.proofs.MethodLemmas.{row_more}
use Rattle.fcg_reader.proofs.members.read_method_rows.Goals as goal

pub loop-preserved : goal.loop-preserved
loop-preserved c =
    let same = c.in_ok-place.ensures.same in
    let inv = c.loop.invariant in (
      row_more c.loop.table.pool c.read_method.new.table.pool c.args.count c.loop.counter c.loop.place c.in_ok-place.place c.loop.table.methods c.read_method.new.table.methods _ same.1 c.loop-test.true (c.in_ok-place.ensures.value c.loop.counter) inv.0,
      rw same.1 c.in_ok-place.ensures.inside,
      same.1 ∙ inv.2,
      same.0 ∙ inv.3,
    )
