use Rattle.fcg_analysis.proofs.EdgeLaws.{edges_sorted, edges_from_pairs}
use Rattle.fcg_analysis.proofs.laws.edges_are_sorted.Goals as goal

pub returns-clause-sorted : goal.returns-clause-sorted
returns-clause-sorted c = edges_sorted

pub returns-clause-only : goal.returns-clause-only
returns-clause-only c = edges_from_pairs
