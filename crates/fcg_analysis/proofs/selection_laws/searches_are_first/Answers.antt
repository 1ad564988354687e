use Rattle.fcg_analysis.proofs.SearchLaws.{search_is_first, search_is_none}
use Rattle.fcg_analysis.proofs.selection_laws.searches_are_first.Goals as goal

pub returns-clause-found : goal.returns-clause-found
returns-clause-found c = search_is_first

pub returns-clause-none : goal.returns-clause-none
returns-clause-none c = search_is_none
