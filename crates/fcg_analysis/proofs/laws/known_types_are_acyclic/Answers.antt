use Rattle.fcg_analysis.specs.Types.{above, links, known}
use Rattle.fcg_analysis.proofs.General.Walking.{led_from_walk}
use Rattle.fcg_analysis.proofs.WinnerLaws.{known_acyclic}
use Rattle.fcg_analysis.proofs.laws.known_types_are_acyclic.Goals as goal

pub returns-clause-walks : goal.returns-clause-walks
unfolding above
returns-clause-walks c = λ views t k w. known_acyclic views t k (led_from_walk links (known views) t t w)

pub returns-clause-above : goal.returns-clause-above
returns-clause-above c = known_acyclic
