use Rattle.std.specs.Prelude.{Some, None}
use Rattle.fcg_analysis.proofs.SearchLaws.{search_goes_on, selects, selects_for_phantom, selected_is_instance}
use Rattle.fcg_analysis.proofs.selection_laws.selections_go_on.Goals as goal

pub returns-clause-on : goal.returns-clause-on
returns-clause-on c = search_goes_on

pub returns-clause-first_one : goal.returns-clause-first_one
returns-clause-first_one c = λ types d a m s e k. selects types d a s (Some m) e k

pub returns-clause-default_one : goal.returns-clause-default_one
returns-clause-default_one c = λ types d a s e k. selects types d a s None e k

pub returns-clause-phantom_first : goal.returns-clause-phantom_first
returns-clause-phantom_first c = λ types d m s k. selects_for_phantom types d s (Some m) k

pub returns-clause-phantom_default : goal.returns-clause-phantom_default
returns-clause-phantom_default c = λ types d s k. selects_for_phantom types d s None k

pub returns-clause-of_nodes : goal.returns-clause-of_nodes
returns-clause-of_nodes c = selected_is_instance
