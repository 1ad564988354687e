use Rattle.fcg_join.proofs.NodeNumbers.{declared_first, declared_found, declared_none, declared_number}
use Rattle.fcg_join.proofs.node_laws.declared_by_declarers.Goals as goal

pub returns-clause-first : goal.returns-clause-first
returns-clause-first c = λ types d s x t h. declared_first types d s x t h

pub returns-clause-found : goal.returns-clause-found
returns-clause-found c = λ types d a s x k t m h i c e. declared_found types d s x t h a k m i c e

pub returns-clause-none : goal.returns-clause-none
returns-clause-none c = λ types d s x t h n. declared_none types d s x t h n

pub returns-clause-number : goal.returns-clause-number
returns-clause-number c = λ types d s k t m c e n. declared_number types d s k t m c e n
