use Rattle.fcg_analysis.proofs.NameLaws.{unlinked_by_name}
use Rattle.fcg_analysis.proofs.type_laws.unlinked_names_by_name.Goals as goal

pub returns : goal.returns
returns c = unlinked_by_name
