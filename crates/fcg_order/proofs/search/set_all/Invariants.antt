use Rattle.std.proofs.Common.{◌≡◌, drop}
use Rattle.fcg_order.specs.Internal.Search.{set_all}
use Rattle.fcg_order.proofs.search.set_all.Given as goal

abbrev pub invariant-loop-place : goal.invariant-loop-place
invariant-loop-place g l = set_all l.xs (drop l.place-index l.places) l.x ≡ set_all l.initial.xs l.places l.x
