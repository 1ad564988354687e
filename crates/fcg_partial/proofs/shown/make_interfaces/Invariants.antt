use Rattle.std.proofs.Common.{◌≡◌, take}
use Rattle.std.specs.Prelude.{map}
use Rattle.fcg_partial.specs.Graph.{StoredType}
use Rattle.fcg_partial.specs.Views.{graph_of, name_in}
use Rattle.fcg_partial.specs.Accessors.{HasType}
use Rattle.fcg_partial.proofs.shown.make_interfaces.Given as goal

abbrev pub invariant-loop-j : goal.invariant-loop-j
invariant-loop-j l = (x : StoredType) → HasType (graph_of l.graph) l.i x → l.interfaces.items ≡ map (name_in (graph_of l.graph).names) (take l.j x.interfaces)
