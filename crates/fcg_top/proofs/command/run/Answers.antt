use Rattle.std.proofs.Common.{rules}
use Rattle.fcg_top.proofs.command.run.Goals as goal

pub returns-in-Some-Print-clause-leaves : goal.returns-in-Some-Print-clause-leaves
returns-in-Some-Print-clause-leaves g c = search rules

pub returns-in-None-clause-leaves : goal.returns-in-None-clause-leaves
returns-in-None-clause-leaves g c = search rules
