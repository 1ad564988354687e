use Rattle.std.proofs.Common.{◌≡◌, List, take}
use Rattle.std.specs.Prelude.{map}
use Rattle.fcg_analysis.specs.Declarations.{Placed}
use Rattle.fcg_join.specs.SetNames.{set_names}
use Rattle.fcg_join.specs.Internal.TypeNumbers.{AreHeads, links_numbered}
use Rattle.fcg_join.proofs.type_links.make_links.Given as goal

abbrev pub invariant-loop-head : goal.invariant-loop-head
invariant-loop-head l = (types : List Placed) → AreHeads l.parts l.heads types
    → l.links ≡ map (links_numbered (set_names l.parts) l.heads l.by_name) (take l.head-index types)
