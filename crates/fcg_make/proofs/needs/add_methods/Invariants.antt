use Rattle.std.proofs.Common.{◌≡◌, ◌+◌, length}
use Rattle.std.specs.List.{flat_map}
use Rattle.fcg_make.specs.Entries.{added_all}
use Rattle.fcg_make.specs.Steps.{method_rows, numbered}
use Rattle.fcg_make.specs.Needs.{method_needs, rows_of}
use Rattle.fcg_make.proofs.needs.add_methods.Given as goal

-- what is left to be added, and the rows that are left
abbrev pub invariant-loop-method : goal.invariant-loop-method
invariant-loop-method l =
    (added_all l.table (flat_map method_needs (numbered method_rows l.row l.rest)) ≡ added_all l.fn.table (flat_map method_needs (numbered method_rows 0 l.methods)))
    × (l.row + length (rows_of l.rest) ≡ length (rows_of l.methods))

abbrev pub decreases-loop-method : goal.decreases-loop-method
decreases-loop-method l = length l.rest
