use Rattle.std.proofs.Common.{rules}
use Rattle.fcg_partial.proofs.index.check_refs.Goals as goal

pub returns-in-Some : goal.returns-in-Some
returns-in-Some c = search rules
