use Rattle.fcg_analysis.proofs.SuperMethods.{default_is_only, first_is_least, none_of_none}
use Rattle.fcg_analysis.proofs.method_laws.one_default_is_the_only.Goals as goal

pub returns-clause-only : goal.returns-clause-only
returns-clause-only c = default_is_only

pub returns-clause-first_one : goal.returns-clause-first_one
returns-clause-first_one c = first_is_least

pub returns-clause-none : goal.returns-clause-none
returns-clause-none c = none_of_none
