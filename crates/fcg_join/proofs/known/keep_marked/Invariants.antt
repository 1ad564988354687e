use Rattle.std.proofs.Common.{◌≡◌, ◌++◌, drop}
use Rattle.fcg_join.specs.Winners.{marked}
use Rattle.fcg_join.proofs.known.keep_marked.Given as goal

abbrev pub invariant-loop-y : goal.invariant-loop-y
invariant-loop-y l = l.kept.items ++ marked (drop l.y l.marks) (drop l.y l.heads) ≡ marked l.marks l.heads
