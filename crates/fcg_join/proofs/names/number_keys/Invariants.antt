use Rattle.fcg_join.specs.Internal.Numbering.{AreNumberedUpTo}
use Rattle.fcg_join.proofs.names.number_keys.Given as goal

abbrev pub invariant-loop-key : goal.invariant-loop-key
invariant-loop-key l = AreNumberedUpTo l.texts l.keys l.numbers.items l.places.items l.key-index
