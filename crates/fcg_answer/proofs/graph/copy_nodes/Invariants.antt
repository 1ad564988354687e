use Rattle.std.proofs.Common.{◌≡◌, ◌-◌, map}
use Rattle.fcg_analysis.specs.Nodes.{identity}
use Rattle.fcg_join.specs.Parts.{nodes_of}
use Rattle.fcg_answer.specs.Answer.{page}
use Rattle.fcg_answer.proofs.graph.copy_nodes.Given as goal

abbrev pub invariant-loop-k : goal.invariant-loop-k
invariant-loop-k l = l.rows.items ≡ page l.fn.from (l.k - l.fn.from) (map identity (nodes_of l.fn.stitched))
