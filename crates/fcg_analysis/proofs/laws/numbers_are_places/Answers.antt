use Rattle.fcg_analysis.proofs.NodeLaws.{numbers_are_places}
use Rattle.fcg_analysis.proofs.laws.numbers_are_places.Goals as goal

pub returns : goal.returns
returns c = numbers_are_places
