use Rattle.std.proofs.Common.{◌≡◌, List, take}
use Rattle.std.specs.Prelude.{map}
use Rattle.std.specs.List.{IsDistinct}
use Rattle.fcg_analysis.specs.Declarations.{Placed, is_type}
use Rattle.fcg_analysis.specs.Types.{uses_unlinked_name}
use Rattle.fcg_join.specs.Internal.TypeNumbers.{AreHeads}
use Rattle.fcg_join.proofs.gaps.mark_unlinked.Given as goal

abbrev pub invariant-loop-head : goal.invariant-loop-head
invariant-loop-head l = (types : List Placed) → AreHeads l.parts l.heads types → IsDistinct is_type types
    → l.marks.items ≡ map (uses_unlinked_name types) (take l.head-index types)
