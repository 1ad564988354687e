use Rattle.std.proofs.Common.{◌-◌}
use Rattle.std.specs.Prelude.{map}
use Rattle.fcg_join.specs.Internal.PartNames.{name_there}
use Rattle.fcg_join.specs.Internal.Searched.{IsSearched}
use Rattle.fcg_join.proofs.part_names.find_name.Given as goal

abbrev pub invariant-loop-low : goal.invariant-loop-low
invariant-loop-low l = IsSearched (map (name_there l.parts) l.places) l.name l.low l.high

abbrev pub decreases-loop-low : goal.decreases-loop-low
decreases-loop-low l = l.high - l.low
