use Rattle.std.proofs.Common.{◌≡◌, take, map}
use Rattle.fcg_book.specs.Sets.{part_at}
use Rattle.fcg_book.proofs.book.copy_parts.Given as goal

abbrev pub invariant-loop-number : goal.invariant-loop-number
invariant-loop-number l = l.parts.items ≡ map (part_at l.fn.log.entries) (take l.number-index l.fn.numbers)
