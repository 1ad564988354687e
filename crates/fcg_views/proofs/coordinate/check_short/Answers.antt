use Rattle.std.proofs.Common.{rules}
use Rattle.fcg_views.specs.Coordinate.{coordinate_of}
use Rattle.fcg_views.proofs.coordinate.check_short.Goals as goal

pub returns-in_err-artifact : goal.returns-in_err-artifact
unfolding coordinate_of
returns-in_err-artifact c = search rules
