use Rattle.fcg_analysis.proofs.NameLaws.{all_known}
use Rattle.fcg_analysis.proofs.type_laws.all_views_are_known.Goals as goal

pub returns : goal.returns
returns c = all_known
