use Rattle.std.proofs.Common.{◌≡◌, drop}
use Rattle.std.specs.Prelude.{option_to_list}
use Rattle.fcg_join.specs.Internal.Gaps.{lacks_interface}
use Rattle.fcg_join.proofs.gaps.lacks_interface.Given as goal

abbrev pub invariant-loop-name : goal.invariant-loop-name
invariant-loop-name l = lacks_interface l.heads l.by_name (option_to_list l.superclass) (drop l.name-index l.interfaces)
    ≡ lacks_interface l.heads l.by_name (option_to_list l.superclass) l.interfaces
