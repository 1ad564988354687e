-- Logs: lists of entries, numbered from 1; what is live in them, which request stands where, and their records.
use Rattle.std.specs.Prelude.{ℕ, zero, suc, ◌+◌, ◌==◌, List, [], ◌∷◌, length, slice_get, Option, Some, None, if◌then◌else◌}
use Rattle.fcg_views.specs.Valid.{is_same}
use Rattle.fcg_views.specs.declared.view.View.{View}
use Rattle.fcg_keeper.specs.declared.record.Record.{Record}
use Rattle.fcg_book.specs.Entries.{LoggedCommand, Imports, Withdraws, LogEntry}
use Rattle.fcg_book.specs.Spelling.{entry_text}

abbrev pub Log : Type 0
Log = List LogEntry

-- the live entry of a coordinate after a command that has a number, where another was live before
abbrev pub live_after : List ℕ → ℕ → LoggedCommand → Option ℕ → Option ℕ
live_after coordinate n (Imports c views) before = if is_same c coordinate then Some n else before
live_after coordinate n (Withdraws c) before = if is_same c coordinate then None else before

abbrev pub live_from : ℕ → Log → List ℕ → Option ℕ → Option ℕ
live_from n [] coordinate before = before
live_from n (e ∷ es) coordinate before = live_from (n + 1) es coordinate (live_after coordinate n e.command before)

-- The live entry of a coordinate: the last that names it, where that is an import.
unfoldable pub live : Log → List ℕ → Option ℕ
live log coordinate = live_from 1 log coordinate None

-- the entry of a request number
abbrev pub number_from : ℕ → Log → ℕ → Option ℕ
number_from n [] request = None
number_from n (e ∷ es) request = if e.request == request then Some n else number_from (n + 1) es request

unfoldable pub number_of : Log → ℕ → Option ℕ
number_of log request = number_from 1 log request

-- the entry of a number
abbrev pub entry_in : Log → ℕ → Option LogEntry
entry_in log zero = None
entry_in log (suc k) = slice_get log k

-- the views of an entry: of an import those of its release
abbrev pub views_in : Option LogEntry → List View
views_in None = []
views_in (Some e) = views_of e.command
  where
    views_of : LoggedCommand → List View
    views_of (Imports c views) = views
    views_of (Withdraws c) = []

-- the record of an entry by its number, and the records of a log
abbrev pub record_of : ℕ → LogEntry → Record
record_of n e = record { seq = n; body = entry_text e }

abbrev pub records_from : ℕ → Log → List Record
records_from n [] = []
records_from n (e ∷ es) = record_of n e ∷ records_from (n + 1) es

unfoldable pub records_of : Log → List Record
records_of log = records_from 1 log

-- the bytes of all records
abbrev pub bytes_of : Log → ℕ
bytes_of [] = 0
bytes_of (e ∷ es) = length (entry_text e) + bytes_of es
