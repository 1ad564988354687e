use Rattle.fcg_views.specs.NamesIn.{names_in}
use Rattle.fcg_partial.specs.Internal.Written.{view_rows}
use Rattle.fcg_partial.proofs.NumberedLaws.{IsSoFar}
use Rattle.fcg_partial.proofs.intern.push_rows.Given as goal

abbrev pub invariant-loop-view : goal.invariant-loop-view
invariant-loop-view l = IsSoFar names_in view_rows l.views l.view-index l.fn.rows.items l.rows.items l.fn.numbers l.numbers
