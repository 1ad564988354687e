use Rattle.fcg_analysis.proofs.SelectedLaws.{selected_found, selected_for_phantom}
use Rattle.fcg_analysis.proofs.laws.selected_methods_override.Goals as goal

pub returns-clause-method : goal.returns-clause-method
returns-clause-method c = selected_found

pub returns-clause-phantom : goal.returns-clause-phantom
returns-clause-phantom c = selected_for_phantom
