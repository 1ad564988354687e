use Rattle.fcg_join.proofs.NodeNumbers.{first_nodes_go_on, total_goes_on, first_nodes_long, first_nodes_at}
use Rattle.fcg_join.proofs.node_laws.first_nodes_are_sums.Goals as goal

pub returns-clause-go_on : goal.returns-clause-go_on
returns-clause-go_on c = λ types t. first_nodes_go_on types t

pub returns-clause-total_goes_on : goal.returns-clause-total_goes_on
returns-clause-total_goes_on c = λ types t. total_goes_on types t

pub returns-clause-long : goal.returns-clause-long
returns-clause-long c = λ types. first_nodes_long types

pub returns-clause-at_place : goal.returns-clause-at_place
returns-clause-at_place c = λ types x t h. first_nodes_at types x t h
