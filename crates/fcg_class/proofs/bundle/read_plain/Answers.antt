use Rattle.std.proofs.Common.{rules}
use Rattle.fcg_class.specs.Bundle.{entries_of}
use Rattle.fcg_class.proofs.bundle.read_plain.Goals as goal

pub returns : goal.returns
unfolding entries_of
returns c = search rules
