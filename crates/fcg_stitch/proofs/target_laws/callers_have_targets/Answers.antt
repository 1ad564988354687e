use Rattle.fcg_stitch.specs.Targets.{caller_targets}
use Rattle.fcg_stitch.proofs.TargetNumbers.{all_within}
use Rattle.fcg_stitch.proofs.TargetLaws.{of_site, of_caller, caller_within, table_of_callers}
use Rattle.fcg_stitch.proofs.target_laws.callers_have_targets.Goals as goal

pub returns-clause-of_site : goal.returns-clause-of_site
returns-clause-of_site c = λ types a b site d. of_site types b d a site

pub returns-clause-of_caller : goal.returns-clause-of_caller
returns-clause-of_caller c = λ types a b d. of_caller types b d a

pub returns-clause-within : goal.returns-clause-within
returns-clause-within c = λ types a. all_within types (caller_targets types a) (caller_within types a)

pub returns-clause-table : goal.returns-clause-table
returns-clause-table c = table_of_callers
