use Rattle.std.proofs.Common.{length}
use Rattle.std.specs.List.{IsDistinct}
use Rattle.fcg_views.specs.Valid.{is_alike}
use Rattle.fcg_views.proofs.valid.are_distinct.Given as goal

abbrev pub invariant-loop-method : goal.invariant-loop-method
invariant-loop-method l = (IsDistinct is_alike l.methods → IsDistinct is_alike l.rest) × (IsDistinct is_alike l.rest → IsDistinct is_alike l.methods)

abbrev pub decreases-loop-method : goal.decreases-loop-method
decreases-loop-method l = length l.rest
