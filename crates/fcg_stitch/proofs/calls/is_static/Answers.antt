use Rattle.std.proofs.Common.{rules}
use Rattle.fcg_stitch.proofs.calls.is_static.Goals as goal

pub returns : goal.returns
returns c = search rules
