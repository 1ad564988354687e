use Rattle.fcg_join.proofs.NodeNumbers.{declarer_members, passing_rise, passing_within, declarers_by_numbers}
use Rattle.fcg_analysis.specs.Declarations.{has_signature}
use Rattle.fcg_join.proofs.node_laws.declarers_are_nodes.Goals as goal

pub returns-clause-members : goal.returns-clause-members
returns-clause-members c = λ types s k. declarer_members types s k

pub returns-clause-rise : goal.returns-clause-rise
returns-clause-rise c = λ types s. passing_rise types (λ m. has_signature s m.method)

pub returns-clause-within : goal.returns-clause-within
returns-clause-within c = λ types s. passing_within types (λ m. has_signature s m.method)

pub returns-clause-by_numbers : goal.returns-clause-by_numbers
returns-clause-by_numbers c = λ types s signatures number h. declarers_by_numbers types s signatures number h
