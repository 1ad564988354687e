use Rattle.std.proofs.Common.{◌≡◌, take}
use Rattle.std.specs.Prelude.{map}
use Rattle.fcg_join.specs.Names.{texts_of}
use Rattle.fcg_join.specs.Internal.PartNames.{name_there}
use Rattle.fcg_join.proofs.part_names.collect_names.Given as goal

abbrev pub invariant-loop-place : goal.invariant-loop-place
invariant-loop-place l = texts_of l.texts.items ≡ map (name_there l.parts) (take l.place-index l.places)
