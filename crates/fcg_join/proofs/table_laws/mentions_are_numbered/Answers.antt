use Rattle.fcg_join.proofs.MentionRows.{own_is_mentioned, has_names}
use Rattle.fcg_join.proofs.table_laws.mentions_are_numbered.Goals as goal

pub returns-clause-own : goal.returns-clause-own
returns-clause-own c = λ names types h d t n c. own_is_mentioned names types h d t c n

pub returns-clause-names : goal.returns-clause-names
returns-clause-names c = λ texts types h i. has_names texts types h i
