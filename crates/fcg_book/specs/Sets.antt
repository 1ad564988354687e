-- The sets of releases of a log: which entries they name, what these say, and the live releases.
use Rattle.std.specs.Prelude.{ℕ, ◌+◌, List, [], ◌∷◌, map, Option, Some, None, is_some, Result, Ok, Err}
use Rattle.std.specs.List.{filter}
use Rattle.fcg_grammar.specs.Reading.{◌>>=◌}
use Rattle.fcg_grammar.specs.Table.{table}
use Rattle.fcg_partial.specs.Parts.{PartShown}
use Rattle.fcg_book.specs.Entries.{coordinate_in, LogEntry}
use Rattle.fcg_book.specs.Log.{Log, live, entry_in, views_in}

-- a live entry, or the place that isn't live
abbrev pub live_or : ℕ → Option ℕ → Result ℕ ℕ
live_or i None = Err i
live_or i (Some n) = Ok n

abbrev pub keys_from : Log → ℕ → List (List ℕ) → Result (List ℕ) ℕ
keys_from log i [] = Ok []
keys_from log i (c ∷ cs) = do
  n ← live_or i (live log c)
  ns ← keys_from log (i + 1) cs
  Ok (n ∷ ns)

-- the numbers of the live entries of a set, in its order, or the first place whose release isn't live
unfoldable pub keys_of : Log → List (List ℕ) → Result (List ℕ) ℕ
keys_of log set = keys_from log 0 set

-- the release of an entry, with the views that it says
abbrev pub part_of : Option LogEntry → PartShown
part_of None = record { coordinate = []; views = [] }
part_of (Some e) = record { coordinate = coordinate_in e.command; views = views_in (Some e) }

abbrev pub part_at : Log → ℕ → PartShown
part_at log n = part_of (entry_in log n)

-- The releases that the numbers name. Of the live entries of a set these are its classes, in its order.
abbrev pub parts_named : Log → List ℕ → List PartShown
parts_named log key = map (part_at log) key

-- the live coordinates, each once, by the bytes of their texts
unfoldable pub live_coordinates : Log → List (List ℕ)
live_coordinates log = table (filter (λ c. is_some (live log c)) (map (λ e. coordinate_in e.command) log))
