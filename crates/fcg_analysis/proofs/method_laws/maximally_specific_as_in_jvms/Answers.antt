use Rattle.fcg_analysis.proofs.SuperMethods.{specific_is_maximal, specific_there}
use Rattle.fcg_analysis.proofs.method_laws.maximally_specific_as_in_jvms.Goals as goal

pub returns-clause-alike : goal.returns-clause-alike
returns-clause-alike c = specific_is_maximal

pub returns-clause-there : goal.returns-clause-there
returns-clause-there c = specific_there
