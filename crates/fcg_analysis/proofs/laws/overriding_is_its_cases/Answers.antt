use Rattle.fcg_analysis.proofs.OverrideLaws.{override_by_cases}
use Rattle.fcg_analysis.proofs.laws.overriding_is_its_cases.Goals as goal

pub returns : goal.returns
returns c = override_by_cases
