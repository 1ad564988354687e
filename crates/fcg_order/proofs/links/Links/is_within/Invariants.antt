use Rattle.std.proofs.Common.{ℕ, ◌<◌, length}
use Rattle.fcg_order.specs.Links.{HasLink}
use Rattle.fcg_order.proofs.links.Links.is_within.Given as goal

abbrev pub invariant-loop-node : goal.invariant-loop-node
invariant-loop-node l = (x y : ℕ) → x < l.node → HasLink l.self x y → y < length l.self
