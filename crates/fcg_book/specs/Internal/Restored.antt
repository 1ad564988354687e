-- What reading records as a log leaves.
use Rattle.std.specs.Prelude.{◌≡◌, ◌≤◌, ◌<◌, List, [], ◌∷◌, ◌++◌, length, Result, Ok, Err}
use Rattle.fcg_keeper.specs.declared.record.Record.{Record}
use Rattle.fcg_book.specs.Entries.{LogEntry}
use Rattle.fcg_book.specs.Spelling.{entry_text}
use Rattle.fcg_book.specs.Log.{Log, records_of}
use Rattle.fcg_book.specs.Internal.Register.{Register}
use Rattle.fcg_book.specs.Opening.{in_record, next_entry}
use Rattle.fcg_book.specs.declared.log.TheConstants.{MOST_ENTRIES}
use Rattle.fcg_book.specs.declared.opening.OpenRefusal.{OpenRefusal}
use Rattle.fcg_book.specs.declared.opening.OpenRefusal.TheVariants as refusals

-- want of memory says nothing
abbrev pub FailsWith : {A : Type 0} → OpenRefusal → Result A OpenRefusal → Type 0
FailsWith refusals.NoMemory read = Unit {0}
FailsWith refusals.KeeperFailed read = read ≡ Err refusals.KeeperFailed
FailsWith (refusals.Sequence seq) read = read ≡ Err (refusals.Sequence seq)
FailsWith (refusals.BadRecord seq rule) read = read ≡ Err (refusals.BadRecord seq rule)

-- a record that was read as the next entry, or its fault
abbrev pub Restores : Log → Record → Result (Unit {0}) OpenRefusal → Log → Type 0
Restores log r (Ok _) new = (e : LogEntry) × (in_record r.seq (next_entry log r.body) ≡ Ok e) × (new ≡ log ++ e ∷ []) × (r.body ≡ entry_text e) × (length log < MOST_ENTRIES)
Restores log r (Err f) new = FailsWith f (in_record r.seq (next_entry log r.body))

-- all records, none of which is to be given
abbrev pub Reads : Result Log OpenRefusal → Result Register OpenRefusal → Type 0
Reads opened (Ok register) = (opened ≡ Ok register.entries) × (register.fresh ≡ [])
Reads opened (Err f) = FailsWith f opened

-- they are the records of the entries, which are few enough
abbrev pub IsReadFrom : List Record → Log → Type 0
IsReadFrom records entries = (records ≡ records_of entries) × (length entries ≤ MOST_ENTRIES)
