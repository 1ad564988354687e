use Rattle.fcg_analysis.proofs.EdgeLaws.{ends_are_nodes}
use Rattle.fcg_analysis.proofs.laws.ends_are_nodes.Goals as goal

pub returns : goal.returns
returns c = ends_are_nodes
