-- What the reader of a class's attributes answers.
use Rattle.std.specs.Prelude.{◌≡◌, ℕ, List, Option, Some, None, Result, Ok, Err}
use Rattle.std.specs.Global.{Vec}
use Rattle.fcg_grammar.specs.declared.error.ReadError.{ReadError}
use Rattle.fcg_grammar.specs.Reading.{Fails}
use Rattle.fcg_classfile.specs.declared.fault.ClassFault.{ClassFault}
use Rattle.fcg_classfile.specs.ClassFile.{BootstrapMethod}
use Rattle.fcg_classfile.specs.Breaks.Attributes.{AttributesBefore}
use Rattle.fcg_classfile.specs.Breaks.Class.{rows_or_none}

-- what the attribute that was read says
abbrev pub rows_if_read : Option (ℕ × List BootstrapMethod) → Option (List BootstrapMethod)
rows_if_read None = None
rows_if_read (Some (at, rows)) = Some rows

abbrev pub rows_if_any : Option (Vec BootstrapMethod) → Option (List BootstrapMethod)
rows_if_any None = None
rows_if_any (Some rows) = Some rows.items

-- the attributes of a class of which the next stands at a place, with what was read so far
abbrev pub rows_before : ℕ → Option (ℕ × List BootstrapMethod) → AttributesBefore (List BootstrapMethod)
rows_before at read = record { at = at; read = read }

-- what was read of them, and the place after them
abbrev pub rows_ended : AttributesBefore (List BootstrapMethod) → List BootstrapMethod × ℕ
rows_ended before = (rows_or_none before.read, before.at)

-- the next attribute, and what was read, wherever it stands; or the fault
abbrev pub GivesRows : Result (ℕ × Option (Vec BootstrapMethod)) (ReadError ClassFault) → Result (Unit {0} × AttributesBefore (List BootstrapMethod)) ClassFault → Type 0
GivesRows (Ok x) read = (next : Option (ℕ × List BootstrapMethod)) × (rows_if_read next ≡ rows_if_any x.1) × (read ≡ Ok (tt, rows_before x.0 next))
GivesRows (Err e) read = Fails e read
