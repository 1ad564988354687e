use Rattle.fcg_analysis.proofs.LineLaws.{line_goes_on}
use Rattle.fcg_analysis.proofs.laws.lines_go_on.Goals as goal

pub returns : goal.returns
returns c = line_goes_on
