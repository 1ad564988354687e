use Rattle.std.proofs.Common.{◌≡◌, ◌+◌, drop}
use Rattle.std.specs.Prelude.{sum_by}
use Rattle.fcg_order.specs.Links.{row}
use Rattle.fcg_edges.specs.Rows.{has, leads}
use Rattle.fcg_edges.specs.Internal.Counts.{count_to}
use Rattle.fcg_edges.proofs.edge_rows.EdgeRows.count_before.Given as goal

abbrev pub invariant-loop-l : goal.invariant-loop-l
invariant-loop-l l = l.count + sum_by (λ u. count_to (has (row l.self.lists u)) l.b) (drop l.l-index l.l-items) ≡ count_to (leads l.self l.a) l.b
