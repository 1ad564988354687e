use Rattle.std.proofs.Common.{arith, append_assoc}
use Rattle.fcg_make.proofs.member.push_method.Goals as goal

pub returns-clause-bytes : goal.returns-clause-bytes
returns-clause-bytes c = grind (arith, append_assoc)
