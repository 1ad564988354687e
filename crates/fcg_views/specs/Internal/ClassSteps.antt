-- The bytes of a whole class as one step.
use Rattle.std.specs.Prelude.{◌≡◌, ◌≤◌, ◌<◌, ℕ, List, length, drop, Option, Some, None}
use Rattle.fcg_views.specs.declared.descriptor.DescState.{DescState}
use Rattle.fcg_views.specs.declared.descriptor.DescState.TheVariants.{Start, Parameters, Array, Name, Returned, ReturnedArray, ReturnedName, Done}
use Rattle.fcg_views.specs.Internal.DescriptorBounds.{IsSmall}
use Rattle.fcg_views.specs.DescriptorSteps.{taken, scan_from}

-- the state after a whole class, from its `L` to its `;`
abbrev pub class_step : DescState → Option DescState
class_step Start = None
class_step (Parameters count units) = taken count units 1
class_step (Array count units dimensions) = taken count units 1
class_step (Name count units filled) = None
class_step (Returned span) = Some (Done span)
class_step (ReturnedArray span dimensions) = Some (Done span)
class_step (ReturnedName span filled) = None
class_step (Done span) = None

-- from a state and a place on, a text leads to where it leads from a later state and place
pub record LeadsTo (text : List ℕ) (s : DescState) (at : ℕ) (to : DescState × ℕ) : Type 0 where
  pub same : scan_from at s (drop at text) ≡ scan_from to.1 to.0 (drop to.1 text)
  pub small : IsSmall to.0
  pub later : at < to.1
  pub within : to.1 ≤ length text
