use Rattle.fcg_analysis.proofs.NodePlaces.{count_is, method_at, of_method_at, in_row, first_goes_on, number_is_place}
use Rattle.fcg_analysis.proofs.NodeMembers.{row_is_taken, row_methods}
use Rattle.fcg_analysis.proofs.method_laws.nodes_are_in_rows.Goals as goal

pub returns-clause-count : goal.returns-clause-count
returns-clause-count c = λ types. count_is types

pub returns-clause-there : goal.returns-clause-there
returns-clause-there c = λ types x k t m h i. method_at types x k t m h i

pub returns-clause-each : goal.returns-clause-each
returns-clause-each c = λ types n m h. of_method_at types n m h

pub returns-clause-of_row : goal.returns-clause-of_row
returns-clause-of_row c = λ types x n t m h l u g. in_row types x n t m h l u g

pub returns-clause-go_on : goal.returns-clause-go_on
returns-clause-go_on c = λ types x t h. first_goes_on types x t h

pub returns-clause-number : goal.returns-clause-number
returns-clause-number c = λ types m h. number_is_place types m h

pub returns-clause-row : goal.returns-clause-row
returns-clause-row c = λ types x t d h. row_is_taken types x t d h

pub returns-clause-methods : goal.returns-clause-methods
returns-clause-methods c = λ types t d h. row_methods types t d h
