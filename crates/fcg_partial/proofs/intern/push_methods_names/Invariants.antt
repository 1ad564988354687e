use Rattle.std.proofs.Common.{◌≡◌, ◌++◌, take}
use Rattle.std.specs.List.{flat_map}
use Rattle.fcg_views.specs.NamesIn.{names_of_method}
use Rattle.fcg_partial.proofs.intern.push_methods_names.Given as goal

abbrev pub invariant-loop-method : goal.invariant-loop-method
invariant-loop-method l = l.names ≡ l.fn.names ++ flat_map names_of_method (take l.method-index l.methods)
