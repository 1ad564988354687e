-- The entries of an office in memory, and the command that it is in doubt about.
use Rattle.std.specs.Prelude.{◌≡◌, ℕ, ◌+◌, ◌≤◌, ◌<◌, Bool, List, ◌++◌, length, Option, Some, None, IfSome}
use Rattle.std.specs.HashMap.{HashMap, spare}
use Rattle.fcg_keeper.specs.declared.record.Record.{Record}
use Rattle.fcg_book.specs.Entries.{LogEntry}
use Rattle.fcg_book.specs.Spelling.{entry_text}
use Rattle.fcg_book.specs.Log.{Log, number_of, bytes_of}
use Rattle.fcg_book.specs.Office.{Matches}
use Rattle.fcg_book.specs.Internal.Index.{LogState, AreNumbered}
use Rattle.fcg_book.specs.declared.log.TheConstants.{MOST_STORE_BYTES}

-- a command that is to be entered, and the number of its record
pub record Waiting : Type 0 where
  pub seq : ℕ
  pub entry : LogEntry

-- the entries, those of them that were not given yet, and how many more there is room for
pub record Register : Type 0 where
  pub entries : Log
  pub fresh : List LogEntry
  pub spare : ℕ

-- the fresh entries are the last ones, and there is room
pub record IsRegister {S : Type 0} (log : LogState) (numbers : HashMap ℕ ℕ S) (bytes : ℕ) (fresh : List LogEntry) (room : ℕ) : Type 0 where
  pub numbered : AreNumbered numbers log.entries
  pub given : Log
  pub last : log.entries ≡ given ++ fresh
  pub bytes_are : bytes ≡ bytes_of log.entries
  pub small : bytes ≤ MOST_STORE_BYTES
  pub has_room : log.spare ≤ room
  pub number_room : log.spare ≤ spare numbers

abbrev pub doubted : Option Waiting → Option LogEntry
doubted None = None
doubted (Some w) = Some w.entry

-- a command in doubt can still become an entry
pub record CanEnter (entries : Log) (room : ℕ) (w : Waiting) : Type 0 where
  pub number : w.seq ≡ length entries + 1
  pub new_request : number_of entries w.entry.request ≡ None
  pub has_room : 0 < room
  pub small : bytes_of entries + length (entry_text w.entry) ≤ MOST_STORE_BYTES

pub record IsOffice (told : Option (List Record)) (sure : Bool) (entries : Log) (room : ℕ) (doubt : Option Waiting) : Type 0 where
  pub records : IfSome told (Matches sure entries (doubted doubt))
  pub can_enter : IfSome doubt (CanEnter entries room)
