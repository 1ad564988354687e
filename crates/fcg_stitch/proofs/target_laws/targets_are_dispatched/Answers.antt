use Rattle.fcg_stitch.specs.Targets.{targets_over}
use Rattle.fcg_stitch.proofs.TargetNumbers.{all_within, target_within}
use Rattle.fcg_stitch.proofs.TargetLaws.{of_reference}
use Rattle.fcg_stitch.proofs.target_laws.targets_are_dispatched.Goals as goal

pub returns-clause-members : goal.returns-clause-members
returns-clause-members c = λ types site b d. of_reference types b d site

pub returns-clause-within : goal.returns-clause-within
returns-clause-within c = λ types r ds. all_within types (targets_over types r ds) (target_within types r ds)
