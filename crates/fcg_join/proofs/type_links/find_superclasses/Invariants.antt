use Rattle.std.proofs.Common.{◌≡◌, take}
use Rattle.std.specs.Prelude.{map}
use Rattle.fcg_join.specs.Internal.TypeNumbers.{superclass_numbered}
use Rattle.fcg_join.proofs.type_links.find_superclasses.Given as goal

abbrev pub invariant-loop-head : goal.invariant-loop-head
invariant-loop-head l = l.superclasses.items ≡ map (λ h. superclass_numbered l.heads l.by_name h.superclass) (take l.head-index l.heads)
