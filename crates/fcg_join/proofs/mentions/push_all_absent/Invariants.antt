use Rattle.std.proofs.Common.{◌≡◌, ◌++◌, drop}
use Rattle.std.specs.Prelude.{flat_map}
use Rattle.fcg_join.specs.Internal.Mentions.{absent_number}
use Rattle.fcg_join.proofs.mentions.push_all_absent.Given as goal

abbrev pub invariant-loop-name : goal.invariant-loop-name
invariant-loop-name l = l.row.items ++ flat_map (absent_number l.by_name) (drop l.name-index l.names) ≡ l.fn.row.items ++ flat_map (absent_number l.by_name) l.names
