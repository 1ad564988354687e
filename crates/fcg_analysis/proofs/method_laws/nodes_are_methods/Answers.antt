use Rattle.fcg_analysis.proofs.NodeMembers.{node_method, method_node, one_node, nodes_go_on}
use Rattle.fcg_analysis.proofs.method_laws.nodes_are_methods.Goals as goal

pub returns-clause-owners : goal.returns-clause-owners
returns-clause-owners c = node_method

pub returns-clause-there : goal.returns-clause-there
returns-clause-there c = method_node

pub returns-clause-one : goal.returns-clause-one
returns-clause-one c = one_node

pub returns-clause-go_on : goal.returns-clause-go_on
returns-clause-go_on c = nodes_go_on
