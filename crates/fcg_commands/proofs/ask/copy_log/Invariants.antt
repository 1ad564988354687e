use Rattle.std.proofs.Common.{◌≡◌, take}
use Rattle.fcg_commands.proofs.ask.copy_log.Given as goal

abbrev pub invariant-loop-number : goal.invariant-loop-number
invariant-loop-number g l = l.book.log ≡ take l.number l.fn.office.log
