use Rattle.std.proofs.Common.{◌≡◌, take}
use Rattle.std.specs.Prelude.{map}
use Rattle.fcg_partial.specs.Graph.{StoredType}
use Rattle.fcg_partial.specs.Views.{graph_of, shown_field}
use Rattle.fcg_partial.specs.Accessors.{HasType}
use Rattle.fcg_partial.proofs.shown.make_fields.Given as goal

abbrev pub invariant-loop-j : goal.invariant-loop-j
invariant-loop-j l = (x : StoredType) → HasType (graph_of l.graph) l.i x → l.fields.items ≡ map (shown_field (graph_of l.graph)) (take l.j x.fields)
