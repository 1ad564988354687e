use Rattle.fcg_analysis.proofs.DeclaredPlaces.{declared_at, none_own, of_node, none_of_nodes}
use Rattle.fcg_analysis.proofs.method_laws.declared_methods_are_found.Goals as goal

pub returns-clause-at_place : goal.returns-clause-at_place
returns-clause-at_place c = λ types d a x k t m s h i g. declared_at types d a x k t m s h i g

pub returns-clause-not_own : goal.returns-clause-not_own
returns-clause-not_own c = λ types d t s h. none_own types d t s h

pub returns-clause-of_nodes : goal.returns-clause-of_nodes
returns-clause-of_nodes c = λ types d a t s m h o g. of_node types d a t s m h o g

pub returns-clause-no_node : goal.returns-clause-no_node
returns-clause-no_node c = λ types t s. none_of_nodes types t s
