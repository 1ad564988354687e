use Rattle.std.proofs.Common.{◌≡◌, take}
use Rattle.fcg_partial.specs.Views.{graph_of}
use Rattle.fcg_partial.proofs.shown.make_names.Given as goal

abbrev pub invariant-loop-n : goal.invariant-loop-n
invariant-loop-n l = l.names.items ≡ take l.n (graph_of l.graph).names
