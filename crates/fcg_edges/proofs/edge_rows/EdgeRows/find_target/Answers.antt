use Rattle.std.proofs.Common.{arith}
use Rattle.fcg_edges.specs.Rows.{leads}
use Rattle.fcg_edges.proofs.NumberCounts.{count_crosses}
use Rattle.fcg_edges.proofs.edge_rows.EdgeRows.find_target.Goals as goal

pub returns-clause-target : goal.returns-clause-target
returns-clause-target c =
    let i = c.loop-high.invariant in
    (count_crosses (leads c.args.self.now c.args.a) c.loop-high.low c.loop-high.high c.args.j i.apart (let t = c.loop-high-test.false in omega arith) i.from_low i.below_high).0

pub returns-clause-before : goal.returns-clause-before
returns-clause-before c =
    let i = c.loop-high.invariant in
    (count_crosses (leads c.args.self.now c.args.a) c.loop-high.low c.loop-high.high c.args.j i.apart (let t = c.loop-high-test.false in omega arith) i.from_low i.below_high).1
