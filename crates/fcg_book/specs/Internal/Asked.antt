-- How a set is looked up in a log.
use Rattle.std.specs.Prelude.{ℕ, List, IsSome, Result, Ok, Err}
use Rattle.std.specs.List.{AllByRecursion}
use Rattle.fcg_partial.specs.Parts.{PartShown}
use Rattle.fcg_book.specs.Entries.{LoggedCommand, Imports, Withdraws, LogEntry}
use Rattle.fcg_book.specs.Log.{Log, entry_in}
use Rattle.fcg_book.specs.Sets.{keys_of, part_of}
use Rattle.fcg_book.specs.Books.{index_of}
use Rattle.std.specs.Prelude.{Option, Some, None}

abbrev pub by_index : Result (List ℕ) ℕ → Result (List ℕ) ℕ
by_index (Ok key) = Ok key
by_index (Err i) = Err (index_of i)

-- the numbers of a set, or the place of the first release that isn't live, in 32 bits
abbrev pub keys_by_index : Log → List (List ℕ) → Result (List ℕ) ℕ
keys_by_index log set = by_index (keys_of log set)

-- the release of an import
abbrev pub imported : Option LogEntry → Option PartShown
imported None = None
imported (Some e) = by e.command
  where
    by : LoggedCommand → Option PartShown
    by (Imports c views) = Some (part_of (Some e))
    by (Withdraws c) = None

-- the numbers are those of imports
abbrev pub AreLive : Log → List ℕ → Type 0
AreLive log numbers = AllByRecursion (λ n. IsSome (imported (entry_in log n))) numbers
