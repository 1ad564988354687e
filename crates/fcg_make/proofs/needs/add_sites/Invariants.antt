use Rattle.std.proofs.Common.{◌≡◌, ◌+◌, length}
use Rattle.std.specs.List.{flat_map}
use Rattle.fcg_make.specs.Entries.{added_all}
use Rattle.fcg_make.specs.Steps.{calls, steps_of, row_count, numbered}
use Rattle.fcg_make.specs.Needs.{step_needs}
use Rattle.fcg_make.proofs.needs.add_sites.Given as goal

-- what is left to be added, and the rows that are left
abbrev pub invariant-loop-step : goal.invariant-loop-step
invariant-loop-step l =
    (added_all l.table (flat_map step_needs (numbered row_count l.row (steps_of l.rest))) ≡ added_all l.fn.table (flat_map step_needs (numbered row_count l.first (steps_of l.sites))))
    × (l.row + length (calls (steps_of l.rest)) ≡ l.first + length (calls (steps_of l.sites)))

abbrev pub decreases-loop-step : goal.decreases-loop-step
decreases-loop-step l = length l.rest
