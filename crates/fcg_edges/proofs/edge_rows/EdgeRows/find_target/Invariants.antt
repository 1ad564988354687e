use Rattle.std.proofs.Common.{◌-◌, ◌<◌, ◌≤◌}
use Rattle.fcg_edges.specs.Rows.{leads}
use Rattle.fcg_edges.specs.Internal.Counts.{count_to}
use Rattle.fcg_edges.proofs.edge_rows.EdgeRows.find_target.Given as goal

abbrev pub invariant-loop-high : goal.invariant-loop-high
invariant-loop-high l = record {
  apart : l.low < l.high;
  within : l.high ≤ l.self.count;
  from_low : count_to (leads l.self l.a) l.low ≤ l.j;
  below_high : l.j < count_to (leads l.self l.a) l.high;
}

abbrev pub decreases-loop-high : goal.decreases-loop-high
decreases-loop-high l = l.high - l.low
