use Rattle.std.proofs.Common.{◌≡◌, ◌++◌}
use Rattle.fcg_book.proofs.log.Log.releases.Given as goal

abbrev pub invariant-loop-coordinate : goal.invariant-loop-coordinate
invariant-loop-coordinate l = l.initial.coordinate-iterator ≡ l.releases.items ++ l.coordinate-iterator
