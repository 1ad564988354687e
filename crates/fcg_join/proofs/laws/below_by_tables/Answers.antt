use Rattle.fcg_join.proofs.TableLaws.{below_by_table}
use Rattle.fcg_join.proofs.laws.below_by_tables.Goals as goal

pub returns : goal.returns
returns c = λ types n table a up d m. below_by_table types n table a up d m
