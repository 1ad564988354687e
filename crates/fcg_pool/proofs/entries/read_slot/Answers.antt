use Rattle.std.proofs.Common.{sym}
use Rattle.fcg_pool.specs.Internal.Entry.{entry_constant}
use Rattle.fcg_pool.specs.Internal.Entry.{next_of}
use Rattle.fcg_pool.proofs.ConstantLemmas.{constant_found, slot_is}
use Rattle.fcg_pool.proofs.entries.read_slot.Goals as goal

pub returns : goal.returns
returns c =
    let found = constant_found c.args.bytes.now c.args.index c.args.next.at (entry_constant c.in_ok-entry.entry, c.in_ok-entry.after) (sym c.in_ok-entry.ensures) in
    let row = slot_is c.args.bytes.now c.args.index (next_of c.args.next) (entry_constant c.in_ok-entry.entry, c.in_ok-entry.after) c.if-next.false (sym c.in_ok-entry.ensures) in
    record { value = rw (found.same, c.is_wide.ensures) (sym row); inside = (found.within, found.lies) }
