use Rattle.std.proofs.Common.{◌≡◌, ◌≤◌, ◌+◌, [], length, take}
use Rattle.fcg_join.specs.Parts.{nodes_of}
use Rattle.fcg_edges.specs.Rows.{edges_of}
use Rattle.fcg_stitch.specs.Limits.{calls_of}
use Rattle.fcg_stitch.specs.Internal.Calling.{IsWork}
use Rattle.fcg_stitch.specs.Internal.Tables.{AreOfNodes}
use Rattle.fcg_stitch.proofs.callers.stitch_nodes.Given as goal

abbrev pub invariant-loop-m : goal.invariant-loop-m
invariant-loop-m g l = record {
  nodes : AreOfNodes l.joined l.m l.maker l.work.statuses.items l.firsts.items;
  work : IsWork l.joined l.maker l.work;
  targets : l.work.row.targets.items ≡ [];
  uses : l.work.row.uses.items ≡ [];
  few : length (edges_of l.maker) ≤ 32000000;
  cost : l.steps ≤ l.fn.steps + calls_of (take l.m (nodes_of l.joined));
  rises : l.fn.steps ≤ l.steps;
}
