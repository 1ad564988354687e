use Rattle.fcg_analysis.specs.Types.{above, links}
use Rattle.fcg_analysis.proofs.General.Walking.{any_led_goes_on}
use Rattle.fcg_analysis.proofs.laws.above_goes_on.Goals as goal

pub returns : goal.returns
unfolding above
returns c = λ types p t. any_led_goes_on links types p t
