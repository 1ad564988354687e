use Rattle.std.proofs.Common.{◌≡◌, take}
use Rattle.fcg_edges.specs.Internal.Tables.{size_of}
use Rattle.fcg_edges.proofs.edge_rows.EdgeRows.row_size.Given as goal

abbrev pub invariant-loop-l : goal.invariant-loop-l
invariant-loop-l l = l.size ≡ size_of l.self.lists l.targets (take l.l-index l.uses)
