use Rattle.fcg_analysis.proofs.KindLaws.{walk_to_class, walk_from_interface}
use Rattle.fcg_analysis.proofs.laws.circles_are_of_one_kind.Goals as goal

pub returns-clause-classes : goal.returns-clause-classes
returns-clause-classes c = λ types t k w. walk_to_class w k

pub returns-clause-interfaces : goal.returns-clause-interfaces
returns-clause-interfaces c = λ types t k w. (walk_from_interface w k).0
