use Rattle.std.proofs.Common.{arith}
use Rattle.fcg_views.proofs.coordinate.check.Goals as goal

pub check_short-requires : goal.check_short-requires
check_short-requires c = omega arith
