use Rattle.std.proofs.Common.{◌≡◌, length}
use Rattle.fcg_order.specs.Internal.Places.{AreListed}
use Rattle.fcg_order.proofs.places.list_nodes.Given as goal

abbrev pub invariant-loop-x : goal.invariant-loop-x
invariant-loop-x l = record {
  long : length l.nodes.items ≡ length l.order;
  listed : AreListed l.enter l.nodes.items l.x;
}
