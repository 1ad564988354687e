use Rattle.fcg_analysis.proofs.HandingLaws.{over_candidate, over_not}
use Rattle.fcg_analysis.proofs.selection_laws.overriding_by_one_walk.Goals as goal

pub returns-clause-of_candidates : goal.returns-clause-of_candidates
returns-clause-of_candidates c = over_candidate

pub returns-clause-of_others : goal.returns-clause-of_others
returns-clause-of_others c = over_not
