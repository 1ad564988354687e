use Rattle.std.proofs.Common.{◌≡◌, drop, length}
use Rattle.fcg_book.specs.Sets.{keys_of, keys_from}
use Rattle.fcg_book.proofs.SetLaws.{after}
use Rattle.fcg_book.proofs.book.find_live.Given as goal

abbrev pub invariant-loop-coordinate : goal.invariant-loop-coordinate
invariant-loop-coordinate l = (length l.numbers.items ≡ l.coordinate-index) × (keys_of l.fn.log.entries l.fn.set ≡ after l.numbers.items (keys_from l.fn.log.entries l.coordinate-index (drop l.coordinate-index l.fn.set)))
