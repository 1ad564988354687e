use Rattle.std.proofs.Common.{◌≡◌, map, take}
use Rattle.serde_json.specs.View.{view}
use Rattle.fcg_json.specs.Reply.{node_data}
use Rattle.fcg_json.proofs.row.nodes_value.Given as goal

abbrev pub invariant-loop-row : goal.invariant-loop-row
invariant-loop-row l = map view l.list.items ≡ map node_data (take l.row-index l.rows)
