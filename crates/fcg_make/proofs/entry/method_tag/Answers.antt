use Rattle.std.proofs.Common.{rules}
use Rattle.fcg_make.proofs.entry.method_tag.Goals as goal

pub returns-then-target : goal.returns-then-target
returns-then-target c = search rules
