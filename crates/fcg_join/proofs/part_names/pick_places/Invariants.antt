use Rattle.std.proofs.Common.{◌≡◌, take}
use Rattle.std.specs.Prelude.{map, slice_index_or}
use Rattle.fcg_join.specs.Internal.PartNames.{no_place}
use Rattle.fcg_join.proofs.part_names.pick_places.Given as goal

abbrev pub invariant-loop-k : goal.invariant-loop-k
invariant-loop-k l = l.picked.items ≡ map (λ k. slice_index_or l.places k no_place) (take l.k-index l.numbers)
