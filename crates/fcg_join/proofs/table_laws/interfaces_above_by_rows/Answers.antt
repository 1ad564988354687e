use Rattle.fcg_join.proofs.MentionRows.{interface_by_row, interface_by_numbers, node_by_numbers, same_number}
use Rattle.fcg_join.proofs.table_laws.interfaces_above_by_rows.Goals as goal

pub returns-clause-of_row : goal.returns-clause-of_row
returns-clause-of_row c = λ names types a d t u n numbers i j k l e up. interface_by_row names types a d t u n numbers i j k l e up

pub returns-clause-by_numbers : goal.returns-clause-by_numbers
returns-clause-by_numbers c = λ names types a d rows name_at up named x y t u h i k. interface_by_numbers names types a d rows name_at up named x y t u h i k

pub returns-clause-same : goal.returns-clause-same
returns-clause-same c = λ types d x y t u h i. same_number types d x y t u h i

pub returns-clause-of_node : goal.returns-clause-of_node
returns-clause-of_node c = λ names types a d rows name_at up named x k t m h i. node_by_numbers names types a d rows name_at up named x k t m h i
