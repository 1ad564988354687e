use Rattle.fcg_classfile.proofs.InstructionLaws.{code_found, code_only, broken_none}
use Rattle.fcg_classfile.proofs.laws.one_code.Goals as goal

pub returns-clause-found : goal.returns-clause-found
returns-clause-found c = λ code places fits e. code_found code places fits e

pub returns-clause-only : goal.returns-clause-only
returns-clause-only c = λ code is e. code_only code is e

pub returns-clause-broken : goal.returns-clause-broken
returns-clause-broken c = λ code f is e d. broken_none code f is e d
