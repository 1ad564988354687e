use Rattle.std.proofs.Common.{arith}
use Rattle.fcg_join.specs.Internal.TypeHeads.{no_head}
use Rattle.fcg_join.proofs.HeadLaws.{finds_next, finds_all}
use Rattle.fcg_join.proofs.known.index_names.Goals as goal

pub loop-y-preserved : goal.loop-y-preserved
loop-y-preserved c = finds_next c.args.heads.now c.loop-y.by_name.items c.args.count c.loop-y.y (c.requires.names c.loop-y.y no_head c.loop-y-test.true) c.loop-y.invariant

pub returns : goal.returns
returns c = finds_all c.args.heads.now c.loop-y.by_name.items c.args.count c.loop-y.y (let a = c.loop-y-test.false in omega arith) (let b = c.loop-y.auto in omega arith) c.loop-y.invariant
