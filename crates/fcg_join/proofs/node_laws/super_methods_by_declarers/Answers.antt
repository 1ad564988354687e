use Rattle.fcg_join.proofs.SuperNumbers.{super_numbers, first_number_found, first_number, specific_numbers, default_number}
use Rattle.fcg_join.proofs.node_laws.super_methods_by_declarers.Goals as goal

pub returns-clause-members : goal.returns-clause-members
returns-clause-members c = λ types t s passes h. super_numbers types t s passes h

pub returns-clause-first : goal.returns-clause-first
returns-clause-first c = λ types t s passes h. first_number_found types t s passes h

pub returns-clause-first_of_all : goal.returns-clause-first_of_all
returns-clause-first_of_all c = λ types t s. first_number types t s

pub returns-clause-specific : goal.returns-clause-specific
returns-clause-specific c = λ types t s below h. specific_numbers types t s below h

pub returns-clause-default : goal.returns-clause-default
returns-clause-default c = λ types t s below abstract_at h k. default_number types t s below h abstract_at k
