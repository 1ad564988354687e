use Rattle.fcg_join.proofs.SuperNumbers.{declared_has_number, default_has_number, first_has_number}
use Rattle.fcg_join.proofs.node_laws.found_nodes_have_numbers.Goals as goal

pub returns-clause-declared : goal.returns-clause-declared
returns-clause-declared c = λ types s t found e. declared_has_number types s t found e

pub returns-clause-default : goal.returns-clause-default
returns-clause-default c = λ types t s found e. default_has_number types t s found e

pub returns-clause-first : goal.returns-clause-first
returns-clause-first c = λ types t s found e. first_has_number types t s found e
