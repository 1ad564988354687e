use Rattle.fcg_analysis.proofs.DeclaredSearch.{only_one, search_declared, any_declared}
use Rattle.fcg_analysis.proofs.selection_laws.searches_look_at_declared.Goals as goal

pub returns-clause-only : goal.returns-clause-only
returns-clause-only c = only_one

pub returns-clause-first_one : goal.returns-clause-first_one
returns-clause-first_one c = search_declared

pub returns-clause-any_one : goal.returns-clause-any_one
returns-clause-any_one c = any_declared
