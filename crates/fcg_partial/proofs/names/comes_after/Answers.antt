use Rattle.std.proofs.Common.{rules}
use Rattle.fcg_partial.proofs.names.comes_after.Goals as goal

pub returns-in-Some : goal.returns-in-Some
returns-in-Some c = search rules
