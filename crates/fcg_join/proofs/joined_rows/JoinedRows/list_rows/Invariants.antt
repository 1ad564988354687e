use Rattle.std.proofs.Common.{◌≡◌}
use Rattle.std.specs.Prelude.{map}
use Rattle.std.specs.List.{range_with_len}
use Rattle.fcg_join.specs.Internal.Mentions.{row_of}
use Rattle.fcg_join.proofs.joined_rows.JoinedRows.list_rows.Given as goal

abbrev pub invariant-loop-node : goal.invariant-loop-node
invariant-loop-node l = l.rows ≡ map (row_of l.self) (range_with_len 0 l.node)
