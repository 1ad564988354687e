use Rattle.fcg_analysis.proofs.EdgeLaws.{edge_from_list, list_from_edge}
use Rattle.fcg_analysis.proofs.laws.edges_are_pairs.Goals as goal

pub returns : goal.returns
returns c = λ types e. (edge_from_list types e, list_from_edge types e)
