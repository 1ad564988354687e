use Rattle.std.proofs.Common.{◌≡◌, take}
use Rattle.std.specs.Prelude.{map}
use Rattle.fcg_partial.specs.Views.{graph_of, shown_type}
use Rattle.fcg_partial.proofs.shown.make_views.Given as goal

abbrev pub invariant-loop-i : goal.invariant-loop-i
invariant-loop-i l = l.views.items ≡ map (shown_type (graph_of l.graph)) (take l.i (graph_of l.graph).types)
