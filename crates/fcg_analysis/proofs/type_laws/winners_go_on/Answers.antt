use Rattle.std.proofs.Common.{refl}
use Rattle.fcg_analysis.specs.Types.{winners}
use Rattle.fcg_analysis.proofs.NameLaws.{one_more}
use Rattle.fcg_analysis.proofs.type_laws.winners_go_on.Goals as goal

pub returns-clause-none : goal.returns-clause-none
unfolding winners
returns-clause-none c = refl

pub returns-clause-more : goal.returns-clause-more
returns-clause-more c = one_more
