use Rattle.std.proofs.Common.{◌≡◌, take}
use Rattle.std.specs.Prelude.{map}
use Rattle.fcg_partial.specs.Graph.{StoredType}
use Rattle.fcg_partial.specs.Views.{graph_of, shown_method}
use Rattle.fcg_partial.specs.Accessors.{HasType}
use Rattle.fcg_partial.proofs.shown.make_methods.Given as goal

abbrev pub invariant-loop-k : goal.invariant-loop-k
invariant-loop-k l = (x : StoredType) → HasType (graph_of l.graph) l.i x → l.methods.items ≡ map (shown_method (graph_of l.graph)) (take l.k x.methods)
