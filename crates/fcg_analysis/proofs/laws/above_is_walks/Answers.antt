use Rattle.fcg_analysis.specs.Types.{above, links}
use Rattle.fcg_analysis.proofs.General.Walking.{walk_from_led, led_from_walk}
use Rattle.fcg_analysis.proofs.laws.above_is_walks.Goals as goal

pub returns : goal.returns
unfolding above
returns c = λ types t u. (walk_from_led links types t u, led_from_walk links types t u)
