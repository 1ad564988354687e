use Rattle.fcg_analysis.proofs.SpecialLaws.{by_class}
use Rattle.fcg_analysis.proofs.selection_laws.special_calls_by_classes.Goals as goal

pub returns : goal.returns
returns c = by_class
