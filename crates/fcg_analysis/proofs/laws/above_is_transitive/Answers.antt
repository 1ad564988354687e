use Rattle.fcg_analysis.proofs.WinnerLaws.{above_joined}
use Rattle.fcg_analysis.proofs.laws.above_is_transitive.Goals as goal

pub returns : goal.returns
returns c = above_joined
