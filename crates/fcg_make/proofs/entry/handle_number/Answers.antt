use Rattle.std.proofs.Common.{rules}
use Rattle.fcg_make.proofs.entry.handle_number.Goals as goal

pub returns-in-K9 : goal.returns-in-K9
returns-in-K9 c = search rules
