use Rattle.std.proofs.Common.{List, take}
use Rattle.fcg_analysis.specs.Declarations.{Placed}
use Rattle.fcg_join.specs.Internal.Nodes.{HaveMethods, AreNodeTables}
use Rattle.fcg_join.proofs.nodes.number_nodes.Given as goal

abbrev pub invariant-loop-y : goal.invariant-loop-y
invariant-loop-y l = (types : List Placed) → HaveMethods l.heads types → AreNodeTables (take l.y types) l.firsts.items l.owners.items
