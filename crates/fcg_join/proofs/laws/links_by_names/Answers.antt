use Rattle.fcg_analysis.proofs.NameLaws.{linked_name}
use Rattle.fcg_join.proofs.laws.links_by_names.Goals as goal

pub returns : goal.returns
returns c = λ types d t n. linked_name types d t n
