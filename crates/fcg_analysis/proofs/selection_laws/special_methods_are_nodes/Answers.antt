use Rattle.fcg_analysis.proofs.SpecialLaws.{special_is_instance}
use Rattle.fcg_analysis.proofs.selection_laws.special_methods_are_nodes.Goals as goal

pub returns : goal.returns
returns c = special_is_instance
