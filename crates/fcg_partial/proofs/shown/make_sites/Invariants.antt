use Rattle.std.proofs.Common.{◌≡◌, take}
use Rattle.std.specs.Prelude.{map}
use Rattle.fcg_partial.specs.Graph.{StoredMethod}
use Rattle.fcg_partial.specs.Views.{graph_of, shown_site}
use Rattle.fcg_partial.specs.Accessors.{HasMethod}
use Rattle.fcg_partial.proofs.shown.make_sites.Given as goal

abbrev pub invariant-loop-s : goal.invariant-loop-s
invariant-loop-s l = (x : StoredMethod) → HasMethod (graph_of l.graph) l.i l.k x → l.sites.items ≡ map (shown_site (graph_of l.graph)) (take l.s x.sites)
