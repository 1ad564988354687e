use Rattle.std.proofs.Common.{◌≡◌, ◌≤◌, length}
use Rattle.fcg_make.specs.Steps.{steps_of}
use Rattle.fcg_make.specs.Unwritable.{is_placed_from, is_placed_method}
use Rattle.fcg_make.proofs.check.is_placed_method.Given as goal

abbrev pub invariant-loop-step : goal.invariant-loop-step
invariant-loop-step l = (is_placed_from l.at (steps_of l.rest) ≡ is_placed_method l.method) × (l.at ≤ 65540)

abbrev pub decreases-loop-step : goal.decreases-loop-step
decreases-loop-step l = length l.rest
