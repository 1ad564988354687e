use Rattle.std.proofs.Common.{◌≡◌, ◌≤◌, [], drop, take, length}
use Rattle.fcg_book.specs.Log.{records_of}
use Rattle.fcg_book.specs.Opening.{log_after}
use Rattle.fcg_book.specs.declared.log.TheConstants.{MOST_ENTRIES}
use Rattle.fcg_book.proofs.opening.read_log.Given as goal

abbrev pub invariant-loop-row : goal.invariant-loop-row
invariant-loop-row l = (l.register.fresh ≡ []) × (log_after [] l.fn.records ≡ log_after l.register.entries (drop l.row-index l.fn.records))
    × (take l.row-index l.fn.records ≡ records_of l.register.entries) × (length l.register.entries ≡ l.row-index) × (length l.register.entries ≤ MOST_ENTRIES)
