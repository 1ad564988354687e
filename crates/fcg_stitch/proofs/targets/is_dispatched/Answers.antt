use Rattle.std.proofs.Common.{rules}
use Rattle.fcg_stitch.proofs.targets.is_dispatched.Goals as goal

pub returns-in-Phantom : goal.returns-in-Phantom
returns-in-Phantom c = search rules
