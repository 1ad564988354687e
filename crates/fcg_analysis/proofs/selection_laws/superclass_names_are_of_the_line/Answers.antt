use Rattle.fcg_analysis.proofs.SpecialLaws.{name_of_line}
use Rattle.fcg_analysis.proofs.selection_laws.superclass_names_are_of_the_line.Goals as goal

pub returns : goal.returns
returns c = name_of_line
