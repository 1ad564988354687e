use Rattle.fcg_join.proofs.MentionRows.{below_by_row, any_number, below_unmentioned}
use Rattle.fcg_join.proofs.table_laws.below_by_rows.Goals as goal

pub returns-clause-value : goal.returns-clause-value
returns-clause-value c = λ names types d numbers up n l o. below_by_row names types d numbers up n l o

pub returns-clause-contained : goal.returns-clause-contained
returns-clause-contained c = λ n numbers. any_number n numbers

pub returns-clause-unmentioned : goal.returns-clause-unmentioned
returns-clause-unmentioned c = λ names types h n o d c. below_unmentioned names types h n o d c
