use Rattle.fcg_analysis.proofs.WinnerLaws.{winner_of, winners_distinct}
use Rattle.fcg_analysis.proofs.laws.winners_are_first.Goals as goal

pub returns-clause-first : goal.returns-clause-first
returns-clause-first c = winner_of

pub returns-clause-distinct : goal.returns-clause-distinct
returns-clause-distinct c = winners_distinct
