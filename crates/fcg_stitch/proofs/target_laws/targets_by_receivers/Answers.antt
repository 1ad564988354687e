use Rattle.fcg_stitch.proofs.TargetNumbers.{targets_go_on, targets_below, none_of_others}
use Rattle.fcg_stitch.proofs.target_laws.targets_by_receivers.Goals as goal

pub returns-clause-go_on : goal.returns-clause-go_on
returns-clause-go_on c = targets_go_on

pub returns-clause-below : goal.returns-clause-below
returns-clause-below c = targets_below

pub returns-clause-none : goal.returns-clause-none
returns-clause-none c = none_of_others
