use Rattle.std.proofs.Common.{◌≡◌, ◌+◌, ◌++◌, length}
use Rattle.fcg_make.specs.Steps.{calls, steps_of, row_count, numbered}
use Rattle.fcg_make.specs.Layout.{code_bytes}
use Rattle.fcg_make.proofs.write.code_of.Given as goal

-- the code so far and what is left of it, and the rows that are left
abbrev pub invariant-loop-step : goal.invariant-loop-step
invariant-loop-step l =
    (l.code.items ++ code_bytes l.table l.at (numbered row_count l.row (steps_of l.rest)) ≡ code_bytes l.table 0 (numbered row_count l.first (steps_of l.sites)))
    × (l.row + length (calls (steps_of l.rest)) ≡ l.first + length (calls (steps_of l.sites)))

abbrev pub decreases-loop-step : goal.decreases-loop-step
decreases-loop-step l = length l.rest
