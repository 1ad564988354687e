use Rattle.fcg_analysis.proofs.KnownLaws.{known_of_name}
use Rattle.fcg_analysis.proofs.WinnerLaws.{known_distinct}
use Rattle.fcg_analysis.proofs.laws.known_types_are_first.Goals as goal

pub returns-clause-distinct : goal.returns-clause-distinct
returns-clause-distinct c = known_distinct

pub returns-clause-first : goal.returns-clause-first
returns-clause-first c = known_of_name
