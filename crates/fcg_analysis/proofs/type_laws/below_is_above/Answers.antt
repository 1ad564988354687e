use Rattle.fcg_analysis.proofs.NameLaws.{below_known, below_object, below_goes_on}
use Rattle.fcg_analysis.proofs.type_laws.below_is_above.Goals as goal

pub returns-clause-of_known : goal.returns-clause-of_known
returns-clause-of_known c = below_known

pub returns-clause-of_object : goal.returns-clause-of_object
returns-clause-of_object c = below_object

pub returns-clause-on : goal.returns-clause-on
returns-clause-on c = below_goes_on
