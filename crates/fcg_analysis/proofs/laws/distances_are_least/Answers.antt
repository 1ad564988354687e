use Rattle.fcg_analysis.proofs.ReachLaws.{dist_is_least}
use Rattle.fcg_analysis.proofs.laws.distances_are_least.Goals as goal

pub returns : goal.returns
returns c = dist_is_least
