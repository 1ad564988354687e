use Rattle.std.proofs.Common.{◌≡◌, ◌+◌, ◌++◌, length, true}
use Rattle.std.specs.List.{flat_map, list_all, AllByRecursion}
use Rattle.fcg_make.specs.Steps.{method_rows, numbered}
use Rattle.fcg_make.specs.Needs.{rows_of}
use Rattle.fcg_make.specs.Unwritable.{is_placed_method}
use Rattle.fcg_make.specs.Internal.Parts.{method_part}
use Rattle.fcg_make.specs.Internal.Small.{IsFlaggedMethod}
use Rattle.fcg_make.proofs.member.push_methods.Given as goal

-- what is written and what is left, the rows that are left, and that the methods are placed
abbrev pub invariant-loop-method : goal.invariant-loop-method
invariant-loop-method l =
    (l.out.items ++ flat_map (method_part l.table) (numbered method_rows l.row l.rest) ≡ l.fn.out.items ++ flat_map (method_part l.table) (numbered method_rows 0 l.methods))
    × (l.row + length (rows_of l.rest) ≡ length (rows_of l.methods))
    × (list_all is_placed_method l.rest ≡ true)
    × (AllByRecursion IsFlaggedMethod l.rest → AllByRecursion IsFlaggedMethod l.methods)

abbrev pub decreases-loop-method : goal.decreases-loop-method
decreases-loop-method l = length l.rest
