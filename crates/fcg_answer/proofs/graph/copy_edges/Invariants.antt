use Rattle.std.proofs.Common.{◌≡◌, ◌+◌}
use Rattle.std.specs.Prelude.{slice_get}
use Rattle.fcg_analysis.specs.Edges.{edges}
use Rattle.fcg_join.specs.Parts.{types_of}
use Rattle.fcg_answer.specs.Answer.{page}
use Rattle.fcg_answer.proofs.graph.copy_edges.Given as goal

abbrev pub invariant-loop-taken : goal.invariant-loop-taken
invariant-loop-taken l = (l.rows.items ≡ page l.fn.from l.taken (edges (types_of l.fn.stitched))) × (l.next ≡ slice_get (edges (types_of l.fn.stitched)) (l.fn.from + l.taken))
