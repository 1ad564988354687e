use Rattle.std.proofs.Common.{arith}
use Rattle.std.proofs.lemmas.Grind.{common_steps}
use Rattle.fcg_views.proofs.descriptor.scan_from.Goals as goal

pub returns-in-None-step : goal.returns-in-None-step
returns-in-None-step c = grind (arith, common_steps)
