use Rattle.fcg_select.proofs.SpecialLaws.{outcome_in_range}
use Rattle.fcg_select.proofs.special_call.special_numbered.Goals as goal

pub special_by-requires-clause-outcome : goal.special_by-requires-clause-outcome
special_by-requires-clause-outcome c = outcome_in_range _ _ _ c.requires.owner c.requires.name c.requires.desc c.requires.outcome
