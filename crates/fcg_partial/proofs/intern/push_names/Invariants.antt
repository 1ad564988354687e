use Rattle.std.proofs.Common.{◌≡◌, ◌++◌, take}
use Rattle.std.specs.List.{flat_map}
use Rattle.fcg_views.specs.NamesIn.{names_in}
use Rattle.fcg_partial.proofs.intern.push_names.Given as goal

abbrev pub invariant-loop-view : goal.invariant-loop-view
invariant-loop-view l = l.names ≡ l.fn.names ++ flat_map names_in (take l.view-index l.views)
