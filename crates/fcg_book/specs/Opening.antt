-- What the records of a keeper say: a log, or the first fault.
use Rattle.std.specs.Prelude.{ℕ, ◌+◌, ◌==◌, ◌&&◌, nat_le, nat_lt, Bool, true, not, List, [], ◌∷◌, ◌++◌, length, is_some, Result, Ok, Err}
use Rattle.fcg_grammar.specs.Reading.{◌>>=◌, unless_broken}
use Rattle.fcg_partial.specs.declared.fault.RecordRule.{RecordRule}
use Rattle.fcg_partial.specs.declared.fault.RecordRule.TheVariants.{Number, Withdraw, Limit}
use Rattle.fcg_keeper.specs.declared.record.Record.{Record}
use Rattle.fcg_book.specs.Entries.{LoggedCommand, Imports, Withdraws, LogEntry}
use Rattle.fcg_book.specs.Spelling.{content_text, entry_text}
use Rattle.fcg_book.specs.Reading.{entry_at}
use Rattle.fcg_book.specs.Log.{Log, live, number_of, bytes_of}
use Rattle.fcg_book.specs.declared.opening.OpenRefusal.{OpenRefusal}
use Rattle.fcg_book.specs.declared.opening.OpenRefusal.TheVariants.{Sequence, BadRecord}
use Rattle.fcg_book.specs.declared.log.TheConstants.{MOST_ENTRIES, MOST_RELEASE_BYTES, MOST_STORE_BYTES}

-- each record has its place from n on as its number
abbrev pub in_sequence : ℕ → List Record → Result (Unit {0}) OpenRefusal
in_sequence n [] = Ok tt
in_sequence n (r ∷ rs) = do
  here ← unless_broken (r.seq == n) (Sequence r.seq)
  in_sequence (n + 1) rs

-- a withdrawal names a release that is live
abbrev pub can_stand : Log → LoggedCommand → Bool
can_stand log (Imports c views) = true
can_stand log (Withdraws c) = is_some (live log c)

abbrev pub within_limits : Log → LogEntry → Bool
within_limits log e = nat_lt (length log) MOST_ENTRIES
    && (nat_le (bytes_of log + length (entry_text e)) MOST_STORE_BYTES && nat_le (length (content_text e.command)) MOST_RELEASE_BYTES)

-- the rules that come after a record was read whole
abbrev pub fits_log : Log → LogEntry → Result (Unit {0}) RecordRule
fits_log log e = do
  fresh ← unless_broken (not (is_some (number_of log e.request))) Number
  live ← unless_broken (can_stand log e.command) Withdraw
  unless_broken (within_limits log e) Limit

abbrev pub next_entry : Log → List ℕ → Result LogEntry RecordRule
next_entry log body = do
  e ← entry_at body
  fits ← fits_log log e
  Ok e

abbrev pub in_record : {A : Type 0} → ℕ → Result A RecordRule → Result A OpenRefusal
in_record seq (Ok x) = Ok x
in_record seq (Err rule) = Err (BadRecord seq rule)

-- the log that records go on with
abbrev pub log_after : Log → List Record → Result Log OpenRefusal
log_after log [] = Ok log
log_after log (r ∷ rs) = do
  e ← in_record r.seq (next_entry log r.body)
  log_after (log ++ e ∷ []) rs

-- the numbers of all records are checked before the first body
unfoldable pub opened : List Record → Result Log OpenRefusal
opened records = do
  numbered ← in_sequence 1 records
  log_after [] records
