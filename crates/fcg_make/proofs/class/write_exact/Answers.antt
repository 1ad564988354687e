use Rattle.std.proofs.Common.{rules}
use Rattle.fcg_make.specs.Layout.{written}
use Rattle.fcg_make.specs.Unwritable.{unwritable}
use Rattle.fcg_make.proofs.class.write_exact.Goals as goal

pub returns-then-not-is_typed-clause-exact : goal.returns-then-not-is_typed-clause-exact
unfolding unwritable written
returns-then-not-is_typed-clause-exact c = search rules

pub returns-clause-exact : goal.returns-clause-exact
unfolding unwritable written
returns-clause-exact c = search rules
