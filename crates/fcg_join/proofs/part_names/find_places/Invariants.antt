use Rattle.std.proofs.Common.{◌≡◌, ◌++◌, drop}
use Rattle.fcg_join.specs.Internal.PartNames.{places_in}
use Rattle.fcg_join.specs.Internal.Collected.{collected}
use Rattle.fcg_join.proofs.part_names.find_places.Given as goal

abbrev pub invariant-loop-i : goal.invariant-loop-i
invariant-loop-i l = l.places.items ++ collected places_in l.i (drop l.i l.parts) ≡ collected places_in 0 l.parts
