use Rattle.fcg_analysis.proofs.NameLaws.{gap_goes_on}
use Rattle.fcg_analysis.proofs.type_laws.gaps_go_on.Goals as goal

pub returns : goal.returns
returns c = gap_goes_on
