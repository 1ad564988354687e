use Rattle.std.proofs.Common.{◌≡◌, take}
use Rattle.std.specs.Prelude.{map}
use Rattle.fcg_join.specs.Parts.{types_of}
use Rattle.fcg_join.specs.SetNames.{set_names}
use Rattle.fcg_join.specs.TypeTables.{own_mentions}
use Rattle.fcg_join.proofs.mentions.find_own_mentions.Given as goal

abbrev pub invariant-loop-head : goal.invariant-loop-head
invariant-loop-head l = l.own ≡ map (own_mentions (set_names l.parts) (types_of l.parts)) (take l.head-index (types_of l.parts))
