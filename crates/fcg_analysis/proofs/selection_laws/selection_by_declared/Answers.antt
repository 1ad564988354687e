use Rattle.fcg_analysis.proofs.HandingLaws.{select_open, select_phantom, select_alike}
use Rattle.fcg_analysis.proofs.selection_laws.selection_by_declared.Goals as goal

pub returns-clause-of_open : goal.returns-clause-of_open
returns-clause-of_open c = select_open

pub returns-clause-of_phantom : goal.returns-clause-of_phantom
returns-clause-of_phantom c = select_phantom

pub returns-clause-of_package_private : goal.returns-clause-of_package_private
returns-clause-of_package_private c = select_alike
