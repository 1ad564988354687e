use Rattle.fcg_views.proofs.CoordinateLaws.{coordinate_verdict}
use Rattle.fcg_views.proofs.laws.one_coordinate_verdict.Goals as goal

pub returns : goal.returns
returns c = λ text. coordinate_verdict text
