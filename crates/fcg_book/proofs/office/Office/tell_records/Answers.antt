use Rattle.fcg_book.proofs.office.Office.tell_records.Goals as goal

pub returns : goal.returns
returns g c = rw (← c.self.view_is) c.self.invariant.records
