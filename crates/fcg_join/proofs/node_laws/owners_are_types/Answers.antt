use Rattle.fcg_join.proofs.NodeNumbers.{owners_go_on, owners_long, owners_within, owner_is, owner_row, owner_method}
use Rattle.fcg_join.proofs.node_laws.owners_are_types.Goals as goal

pub returns-clause-go_on : goal.returns-clause-go_on
returns-clause-go_on c = λ types t. owners_go_on types t

pub returns-clause-long : goal.returns-clause-long
returns-clause-long c = λ types. owners_long types

pub returns-clause-within : goal.returns-clause-within
returns-clause-within c = λ types. owners_within types

pub returns-clause-owner : goal.returns-clause-owner
returns-clause-owner c = λ types k m h. owner_is types k m h

pub returns-clause-row : goal.returns-clause-row
returns-clause-row c = λ types k x m t h i. owner_row types k x m t h i

pub returns-clause-method : goal.returns-clause-method
returns-clause-method c = λ types k first m h e. owner_method types k first m h e
