use Rattle.fcg_analysis.proofs.MeetLaws.{of_statics, of_others, of_name}
use Rattle.fcg_analysis.proofs.edge_laws.targets_by_their_flags.Goals as goal

pub returns-clause-of_statics : goal.returns-clause-of_statics
returns-clause-of_statics c = of_statics

pub returns-clause-of_others : goal.returns-clause-of_others
returns-clause-of_others c = of_others

pub returns-clause-of_name : goal.returns-clause-of_name
returns-clause-of_name c = of_name
