use Rattle.fcg_analysis.proofs.ChainWalks.{chain_walked, next_known}
use Rattle.fcg_analysis.proofs.type_laws.chains_are_walked.Goals as goal

pub returns-clause-walked : goal.returns-clause-walked
returns-clause-walked c = chain_walked

pub returns-clause-next_is_known : goal.returns-clause-next_is_known
returns-clause-next_is_known c = next_known
