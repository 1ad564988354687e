use Rattle.std.proofs.Common.{rules}
use Rattle.fcg_partial.proofs.intern.is_text.Goals as goal

pub returns-in-Some : goal.returns-in-Some
returns-in-Some c = search rules
