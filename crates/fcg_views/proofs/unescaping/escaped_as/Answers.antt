use Rattle.std.proofs.Common.{rules}
use Rattle.fcg_views.proofs.unescaping.escaped_as.Goals as goal

pub returns-in_err-byte : goal.returns-in_err-byte
returns-in_err-byte c = search rules

pub returns-then-may_stand : goal.returns-then-may_stand
returns-then-may_stand c = search rules

pub returns-else-may_stand : goal.returns-else-may_stand
returns-else-may_stand c = search rules
