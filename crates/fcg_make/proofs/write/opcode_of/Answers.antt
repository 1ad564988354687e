use Rattle.std.proofs.Common.{rules}
use Rattle.fcg_make.proofs.write.opcode_of.Goals as goal

pub returns-in-StaticField : goal.returns-in-StaticField
returns-in-StaticField c = search rules
