use Rattle.std.proofs.Common.{rules}
use Rattle.fcg_top.proofs.command.run_listing.Goals as goal

pub returns-in-Ok-clause-leaves : goal.returns-in-Ok-clause-leaves
returns-in-Ok-clause-leaves g c = search rules
