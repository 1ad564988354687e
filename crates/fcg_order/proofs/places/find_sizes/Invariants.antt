use Rattle.std.proofs.Common.{◌≤◌, length}
use Rattle.fcg_order.specs.Internal.Places.{AreSizes}
use Rattle.fcg_order.proofs.places.find_sizes.Given as goal

abbrev pub invariant-loop-i : goal.invariant-loop-i
invariant-loop-i l = record {
  within : l.i ≤ length l.order;
  sizes : AreSizes l.parents l.order l.sizes.items l.i;
}

abbrev pub decreases-loop-i : goal.decreases-loop-i
decreases-loop-i l = l.i
