use Rattle.std.proofs.Common.{rules}
use Rattle.fcg_partial.specs.Reading.{kind_of}
use Rattle.fcg_partial.proofs.rows.kind_of.Goals as goal

pub returns-in-5 : goal.returns-in-5
unfolding kind_of
returns-in-5 c = search rules
