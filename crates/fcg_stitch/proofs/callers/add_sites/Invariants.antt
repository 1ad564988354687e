use Rattle.std.proofs.Common.{◌≤◌, ◌+◌, length, take}
use Rattle.std.specs.Prelude.{filter, map, flat_map}
use Rattle.fcg_analysis.specs.Nodes.{Node}
use Rattle.fcg_analysis.specs.Edges.{status}
use Rattle.fcg_join.specs.Parts.{types_of}
use Rattle.fcg_join.specs.Joined.{HasNode}
use Rattle.fcg_stitch.specs.Targets.{site_targets}
use Rattle.fcg_stitch.specs.Limits.{calls}
use Rattle.fcg_stitch.specs.Internal.Rows.{HaveMoreLists}
use Rattle.fcg_stitch.specs.Internal.Calling.{IsWork, AddsTargets, AddsStatuses}
use Rattle.fcg_stitch.proofs.callers.add_sites.Given as goal

abbrev pub invariant-loop-k : goal.invariant-loop-k
invariant-loop-k g l = record {
  work : IsWork l.joined l.maker l.work;
  lists : HaveMoreLists l.fn.maker l.maker;
  targets : (n : Node) → HasNode l.joined l.fn.m n → AddsTargets l.fn.maker l.maker l.fn.work l.work (flat_map (site_targets (types_of l.joined) n.owner) (take l.k n.method.sites));
  statuses : (n : Node) → HasNode l.joined l.fn.m n → AddsStatuses l.fn.work l.work (map (status (types_of l.joined)) (take l.k n.method.sites));
  cost : (n : Node) → HasNode l.joined l.fn.m n → l.steps ≤ l.fn.steps + length (filter calls (take l.k n.method.sites));
  rises : l.fn.steps ≤ l.steps;
}
