use Rattle.fcg_analysis.proofs.General.Members.{IsIn-from_Contains}
use Rattle.fcg_analysis.proofs.ChainParts.{chain_shared, chain_ends}
use Rattle.fcg_analysis.proofs.type_laws.chains_are_shared.Goals as goal

pub returns-clause-shared : goal.returns-clause-shared
returns-clause-shared c = λ types a t u k h. chain_shared types a t u k (IsIn-from_Contains _ u h)

pub returns-clause-ends : goal.returns-clause-ends
returns-clause-ends c = chain_ends
