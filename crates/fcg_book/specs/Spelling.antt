-- The body of a record: how an entry is spelled, and which entries are.
use Rattle.std.specs.Prelude.{ℕ, ◌/◌, ◌%◌, ◌<◌, ◌^◌, List, [], ◌∷◌, ◌++◌, length}
use Rattle.std.specs.List.{concat}
use Rattle.fcg_grammar.specs.Spell.{u2, u4}
use Rattle.fcg_views.specs.Coordinate.{IsCoordinate}
use Rattle.fcg_partial.specs.Graph.{IsGraph}
use Rattle.fcg_partial.specs.Views.{graph_of, text_of}
use Rattle.fcg_book.specs.Entries.{LoggedCommand, Imports, Withdraws, coordinate_in, LogEntry}

-- `FCGK`
abbrev pub magic : List ℕ
magic = 0x46 ∷ 0x43 ∷ 0x47 ∷ 0x4b ∷ []

-- a number of eight bytes: its upper half, and its lower
abbrev pub u8 : ℕ → List ℕ
u8 n = u4 (n / 2 ^ 32) ++ u4 (n % 2 ^ 32)

abbrev pub kind_number : LoggedCommand → ℕ
kind_number (Imports coordinate views) = 1
kind_number (Withdraws coordinate) = 2

abbrev pub coordinate_text : List ℕ → List ℕ
coordinate_text coordinate = u2 (length coordinate) ++ coordinate

-- the stored graph of an import
abbrev pub content_text : LoggedCommand → List ℕ
content_text (Imports coordinate views) = text_of views
content_text (Withdraws coordinate) = []

unfoldable pub entry_text : LogEntry → List ℕ
entry_text e = concat (
    magic ∷ u2 1
    ∷ u8 e.request
    ∷ (kind_number e.command ∷ [])
    ∷ u2 (length (coordinate_in e.command)) ∷ coordinate_in e.command
    ∷ content_text e.command ∷ [])

-- the views have a stored graph
abbrev pub IsContent : LoggedCommand → Type 0
IsContent (Imports coordinate views) = IsGraph (graph_of views)
IsContent (Withdraws coordinate) = Unit {0}

pub record IsEntry (e : LogEntry) : Type 0 where
  pub number : e.request < 2 ^ 64
  pub coordinate : IsCoordinate (coordinate_in e.command)
  pub content : IsContent e.command
