use Rattle.std.proofs.Common.{◌∷◌, []}
use Rattle.fcg_partial.specs.Internal.Written.{written_name}
use Rattle.fcg_partial.proofs.NumberedLaws.{IsSoFar}
use Rattle.fcg_partial.proofs.write.push_interfaces.Given as goal

abbrev pub invariant-loop-name : goal.invariant-loop-name
invariant-loop-name l = IsSoFar (λ name. name ∷ []) written_name l.interfaces l._name-index l.fn.out.items l.out.items l.fn.numbers l.numbers
