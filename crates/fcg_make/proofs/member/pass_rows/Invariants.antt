use Rattle.std.proofs.Common.{◌≡◌, ◌+◌, length}
use Rattle.fcg_make.specs.Steps.{calls, steps_of}
use Rattle.fcg_make.proofs.member.pass_rows.Given as goal

abbrev pub invariant-loop-step : goal.invariant-loop-step
invariant-loop-step l = l.row + length (calls (steps_of l.rest)) ≡ l.first + length (calls (steps_of l.sites))

abbrev pub decreases-loop-step : goal.decreases-loop-step
decreases-loop-step l = length l.rest
