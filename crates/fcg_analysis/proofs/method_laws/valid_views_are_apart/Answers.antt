use Rattle.fcg_analysis.proofs.NodeMembers.{apart_from_valid}
use Rattle.fcg_analysis.proofs.method_laws.valid_views_are_apart.Goals as goal

pub returns : goal.returns
returns c = λ views v. apart_from_valid views v
