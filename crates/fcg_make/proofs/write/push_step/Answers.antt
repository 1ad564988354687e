use Rattle.std.proofs.Common.{arith, append_assoc}
use Rattle.fcg_make.proofs.write.push_step.Goals as goal

pub returns : goal.returns
returns c = grind (arith, append_assoc)
