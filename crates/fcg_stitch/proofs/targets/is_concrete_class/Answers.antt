use Rattle.std.proofs.Common.{rules}
use Rattle.fcg_stitch.proofs.targets.is_concrete_class.Goals as goal

pub returns-then-not-is_interface : goal.returns-then-not-is_interface
returns-then-not-is_interface c = search rules
