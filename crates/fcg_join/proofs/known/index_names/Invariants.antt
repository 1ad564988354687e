use Rattle.fcg_join.specs.Internal.TypeNumbers.{FindsFirst}
use Rattle.fcg_join.proofs.known.index_names.Given as goal

abbrev pub invariant-loop-y : goal.invariant-loop-y
invariant-loop-y l = FindsFirst l.heads l.by_name.items l.count l.y
