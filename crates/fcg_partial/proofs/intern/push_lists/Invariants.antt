use Rattle.std.proofs.Common.{◌≡◌, ◌++◌, take}
use Rattle.std.specs.List.{flat_map}
use Rattle.fcg_views.specs.NamesIn.{names_by}
use Rattle.fcg_partial.proofs.intern.push_lists.Given as goal

abbrev pub invariant-loop-list : goal.invariant-loop-list
invariant-loop-list l = l.names ≡ l.fn.names ++ flat_map names_by (take l.list-index l.lists)
