use Rattle.fcg_join.proofs.Upward.{upward}
use Rattle.fcg_join.proofs.laws.upward_tables.Goals as goal

pub returns : goal.returns
returns c = λ types says table acyclic up t m. upward types acyclic says table up t m
