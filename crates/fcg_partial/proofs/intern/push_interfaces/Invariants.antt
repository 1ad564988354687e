use Rattle.std.proofs.Common.{◌≡◌, ◌++◌, take}
use Rattle.fcg_partial.proofs.intern.push_interfaces.Given as goal

abbrev pub invariant-loop-name : goal.invariant-loop-name
invariant-loop-name l = l.names ≡ l.fn.names ++ take l.name-index l.interfaces
