use Rattle.fcg_analysis.proofs.SearchLaws.{of_itself, of_private, of_open, outside}
use Rattle.fcg_analysis.proofs.selection_laws.overriding_of_itself.Goals as goal

pub returns-clause-itself : goal.returns-clause-itself
returns-clause-itself c = of_itself

pub returns-clause-of_private : goal.returns-clause-of_private
returns-clause-of_private c = of_private

pub returns-clause-of_open : goal.returns-clause-of_open
returns-clause-of_open c = of_open

pub returns-clause-outside : goal.returns-clause-outside
returns-clause-outside c = outside
