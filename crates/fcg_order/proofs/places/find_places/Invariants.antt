use Rattle.fcg_order.specs.Internal.Places.{AreEntered}
use Rattle.fcg_order.proofs.places.find_places.Given as goal

abbrev pub invariant-loop-i : goal.invariant-loop-i
invariant-loop-i l = AreEntered l.parents l.order l.sizes.items l.enter.items l.leave.items l.i
