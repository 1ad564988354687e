use Rattle.std.proofs.Common.{arith, append_assoc}
use Rattle.fcg_make.proofs.class.push_types.Goals as goal

pub returns : goal.returns
returns c = grind (arith, append_assoc)
