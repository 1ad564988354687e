use Rattle.std.proofs.Common.{arith, append_assoc}
use Rattle.fcg_views.specs.Uri.{with_dollar}
use Rattle.fcg_views.proofs.uri.push_coordinate.Goals as goal

pub returns : goal.returns
unfolding with_dollar
returns c = grind (arith, append_assoc)
