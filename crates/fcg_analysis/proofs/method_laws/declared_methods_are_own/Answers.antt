use Rattle.fcg_analysis.proofs.NodeMembers.{declared_own, declared_there, declared_only}
use Rattle.fcg_analysis.proofs.method_laws.declared_methods_are_own.Goals as goal

pub returns-clause-found : goal.returns-clause-found
returns-clause-found c = declared_own

pub returns-clause-there : goal.returns-clause-there
returns-clause-there c = declared_there

pub returns-clause-only : goal.returns-clause-only
returns-clause-only c = declared_only
