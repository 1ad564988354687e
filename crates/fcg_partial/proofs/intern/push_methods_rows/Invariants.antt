use Rattle.fcg_views.specs.NamesIn.{names_of_method}
use Rattle.fcg_partial.specs.Internal.Written.{method_rows}
use Rattle.fcg_partial.proofs.NumberedLaws.{IsSoFar}
use Rattle.fcg_partial.proofs.intern.push_methods_rows.Given as goal

abbrev pub invariant-loop-method : goal.invariant-loop-method
invariant-loop-method l = IsSoFar names_of_method method_rows l.methods l.method-index l.fn.rows.items l.rows.items l.fn.numbers l.numbers
