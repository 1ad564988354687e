use Rattle.fcg_join.proofs.TableLaws.{gap_by_table}
use Rattle.fcg_join.proofs.laws.gaps_by_tables.Goals as goal

pub returns : goal.returns
returns c = λ types table a up t m. gap_by_table types table a up t m
