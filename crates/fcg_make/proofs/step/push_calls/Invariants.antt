use Rattle.std.proofs.Common.{◌≡◌, ◌++◌, length}
use Rattle.fcg_make.specs.Steps.{calls, steps_of}
use Rattle.fcg_make.proofs.step.push_calls.Given as goal

abbrev pub invariant-loop-step : goal.invariant-loop-step
invariant-loop-step l = l.rows.items ++ calls (steps_of l.rest) ≡ l.fn.rows.items ++ calls (steps_of l.sites)

abbrev pub decreases-loop-step : goal.decreases-loop-step
decreases-loop-step l = length l.rest
