use Rattle.fcg_analysis.proofs.NameLaws.{above_from_name, name_from_above, above_in_order}
use Rattle.fcg_analysis.proofs.type_laws.above_by_name.Goals as goal

pub returns-clause-alike : goal.returns-clause-alike
returns-clause-alike c = λ types d t u k. (above_from_name types d t u k, name_from_above types t u)

pub returns-clause-in_order : goal.returns-clause-in_order
returns-clause-in_order c = above_in_order
