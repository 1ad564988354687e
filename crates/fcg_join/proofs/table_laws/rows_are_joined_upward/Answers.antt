use Rattle.fcg_join.proofs.RowLaws.{joined_row, joined_in_order, joined_rows, joined_rows_are}
use Rattle.fcg_join.proofs.table_laws.rows_are_joined_upward.Goals as goal

pub returns-clause-step : goal.returns-clause-step
returns-clause-step c = λ types links own rows says h o x t numbers a b j. joined_row types links h says own o rows x t numbers a b j

pub returns-clause-each : goal.returns-clause-each
returns-clause-each c = λ types links own rows says a h o j x t i. joined_rows types links h says own o a rows j x t i

pub returns-clause-in_order : goal.returns-clause-in_order
returns-clause-in_order c = λ types links own rows says a d h o order before later i x t numbers e k b j. joined_in_order types links h says own o a d order before later i rows x t numbers e k b j

pub returns-clause-joined : goal.returns-clause-joined
returns-clause-joined c = λ links own rows x. joined_rows_are links own rows x
