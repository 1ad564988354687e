use Rattle.fcg_analysis.proofs.SpecialLaws.{init_named}
use Rattle.fcg_analysis.proofs.selection_laws.special_inits_are_named.Goals as goal

pub returns : goal.returns
returns c = init_named
