use Rattle.std.proofs.Common.{◌∙◌}
use Rattle.fcg_book.proofs.SetLaws.{keys_are_live, keys_absent}
use Rattle.fcg_book.proofs.book.Book.ask.Goals as goal

pub copy_parts-requires : goal.copy_parts-requires
copy_parts-requires g c = rw c.deref.ensures.value (keys_are_live c.self.inside.log.entries c.as_slice.result.now c.in-Ok.numbers.items c.in-Ok.ensures)

pub returns-in-Err-Fault-clause-answer : goal.returns-in-Err-Fault-clause-answer
returns-in-Err-Fault-clause-answer g c =
    let fails = rw c.in-Err-Fault.field-0-is at c.in-Err-Fault.ensures in
    let a = keys_absent c.self.inside.log.entries c.as_slice.result.now c.in-Err-Fault.index fails in
    let b = rw c.as_slice.ensures at a in
    rw (← c.self.view_is) (b.0, b.1, b.2, c.in-Err-Fault.index-is ∙ b.3)
