use Rattle.fcg_analysis.proofs.NameLaws.{known_wins}
use Rattle.fcg_analysis.proofs.WinnerLaws.{winners_distinct}
use Rattle.fcg_analysis.proofs.type_laws.known_types_are_winners.Goals as goal

pub returns : goal.returns
returns c = λ views t. known_wins views (winners_distinct views) t
