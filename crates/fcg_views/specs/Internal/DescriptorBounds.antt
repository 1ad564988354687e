-- Which states the front of a descriptor leaves.
use Rattle.std.specs.Prelude.{◌≤◌}
use Rattle.fcg_views.specs.declared.descriptor.DescState.{DescState}
use Rattle.fcg_views.specs.declared.descriptor.DescState.TheVariants.{Start, Parameters, Array, Name, Returned, ReturnedArray, ReturnedName, Done}

-- each parameter takes a unit, and there are at most 255
abbrev pub IsSmall : DescState → Type 0
IsSmall Start = Unit {0}
IsSmall (Parameters count units) = (count ≤ units) × (units ≤ 255)
IsSmall (Array count units dimensions) = (count ≤ units) × (units ≤ 255) × (dimensions ≤ 255)
IsSmall (Name count units filled) = (count ≤ units) × (units ≤ 255)
IsSmall (Returned span) = Unit {0}
IsSmall (ReturnedArray span dimensions) = dimensions ≤ 255
IsSmall (ReturnedName span filled) = Unit {0}
IsSmall (Done span) = Unit {0}
