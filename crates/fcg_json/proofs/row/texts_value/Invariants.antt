use Rattle.std.proofs.Common.{◌≡◌, map, take}
use Rattle.serde_json.specs.View.{view}
use Rattle.serde_json.specs.Data.{string}
use Rattle.fcg_json.proofs.row.texts_value.Given as goal

abbrev pub invariant-loop-release : goal.invariant-loop-release
invariant-loop-release l = map view l.list.items ≡ map string (take l.release-index l.releases)
