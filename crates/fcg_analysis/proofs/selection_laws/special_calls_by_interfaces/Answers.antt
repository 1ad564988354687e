use Rattle.fcg_analysis.proofs.SpecialLaws.{by_interface}
use Rattle.fcg_analysis.proofs.selection_laws.special_calls_by_interfaces.Goals as goal

pub returns : goal.returns
returns c = by_interface
