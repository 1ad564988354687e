use Rattle.fcg_analysis.proofs.OverrideLaws.{override_shortly}
use Rattle.fcg_analysis.proofs.laws.overriding_put_shortly.Goals as goal

pub returns : goal.returns
returns c = override_shortly
