use Rattle.fcg_analysis.proofs.SuperMethods.{super_members, supers_alike, defaults_alike}
use Rattle.fcg_analysis.proofs.method_laws.superinterface_methods_are_above.Goals as goal

pub returns-clause-members : goal.returns-clause-members
returns-clause-members c = super_members

pub returns-clause-alike : goal.returns-clause-alike
returns-clause-alike c = supers_alike

pub returns-clause-same_default : goal.returns-clause-same_default
returns-clause-same_default c = defaults_alike
