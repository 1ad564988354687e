use Rattle.fcg_analysis.proofs.ChainLaws.{chain_goes_on}
use Rattle.fcg_analysis.proofs.laws.chains_go_on.Goals as goal

pub returns : goal.returns
returns c = chain_goes_on
