use Rattle.std.proofs.Common.{◌≡◌, ◌++◌, drop}
use Rattle.std.specs.Prelude.{flat_map}
use Rattle.fcg_join.specs.Internal.Mentions.{row_of}
use Rattle.fcg_join.proofs.joined_rows.JoinedRows.push_linked.Given as goal

abbrev pub invariant-loop-node : goal.invariant-loop-node
invariant-loop-node l = l.row.items ++ flat_map (row_of l.self) (drop l.node-index l.linked) ≡ l.fn.row.items ++ flat_map (row_of l.self) l.linked
