use Rattle.std.proofs.Common.{take}
use Rattle.std.specs.Prelude.{◌||◌}
use Rattle.fcg_order.specs.Links.{row}
use Rattle.fcg_edges.specs.Rows.{has, any_has}
use Rattle.fcg_edges.specs.Internal.Counts.{IsNext}
use Rattle.fcg_edges.proofs.edge_rows.EdgeRows.next_target.Given as goal

abbrev pub invariant-loop-l : goal.invariant-loop-l
invariant-loop-l l = IsNext (λ k. has (row l.self.targets l.a) k || any_has l.self.lists (take l.l-index l.l-items) k) l.b l.next
