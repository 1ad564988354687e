use Rattle.fcg_analysis.proofs.General.Members.{IsIn-from_Contains}
use Rattle.fcg_analysis.proofs.ChainParts.{chain_member, chain_distinct, later_is_class, later_is_above, interface_chain}
use Rattle.fcg_analysis.proofs.type_laws.chains_are_of_types.Goals as goal

pub returns-clause-members : goal.returns-clause-members
returns-clause-members c = λ types a t u k h. chain_member types a t u k (IsIn-from_Contains _ u h)

pub returns-clause-once : goal.returns-clause-once
returns-clause-once c = chain_distinct

pub returns-clause-classes : goal.returns-clause-classes
returns-clause-classes c = later_is_class

pub returns-clause-interface : goal.returns-clause-interface
returns-clause-interface c = interface_chain

pub returns-clause-are_above : goal.returns-clause-are_above
returns-clause-are_above c = later_is_above
