-- How a record's body is read, from front to back, and the first rule that it breaks.
use Rattle.std.specs.Prelude.{ℕ, ◌+◌, ◌*◌, ◌^◌, ◌==◌, ◌||◌, Bool, true, false, List, length, drop, Result, Ok, Err}
use Rattle.fcg_grammar.specs.Reading.{◌>>=◌, unless_broken}
use Rattle.fcg_grammar.specs.Number as number
use Rattle.fcg_views.specs.Coordinate.{coordinate_of}
use Rattle.fcg_views.specs.declared.coordinate.CoordinateFault.{CoordinateFault}
use Rattle.fcg_views.specs.declared.view.View.{View}
use Rattle.fcg_partial.specs.declared.fault.RecordFault.{RecordFault}
use Rattle.fcg_partial.specs.declared.fault.RecordRule.{RecordRule}
use Rattle.fcg_partial.specs.declared.fault.RecordRule.TheVariants.{Magic, Version, Cut, Trailing, Coordinate, Command}
use Rattle.fcg_partial.specs.Graph.{Graph}
use Rattle.fcg_partial.specs.Views.{shown}
use Rattle.fcg_partial.specs.Reading.{graph_at}
use Rattle.fcg_book.specs.Entries.{LoggedCommand, Imports, Withdraws, LogEntry}

abbrev pub u1_at : List ℕ → ℕ → Result ℕ RecordRule
u1_at bytes at = number.u1_at Cut bytes at

abbrev pub u2_at : List ℕ → ℕ → Result ℕ RecordRule
u2_at bytes at = number.u2_at Cut bytes at

abbrev pub u4_at : List ℕ → ℕ → Result ℕ RecordRule
u4_at bytes at = number.u4_at Cut bytes at

unfoldable pub u8_at : List ℕ → ℕ → Result ℕ RecordRule
u8_at bytes at = do
  upper ← u4_at bytes at
  lower ← u4_at bytes (at + 4)
  Ok (upper * 2 ^ 32 + lower)

-- a text that isn't a coordinate, whatever its fault, breaks one rule
abbrev pub as_coordinate : Result (List ℕ) CoordinateFault → Result (List ℕ) RecordRule
as_coordinate (Ok text) = Ok text
as_coordinate (Err f) = Err Coordinate

-- of the fault of a graph the rule alone is told
abbrev pub as_views : Result Graph RecordFault → Result (List View) RecordRule
as_views (Ok g) = Ok (shown g)
as_views (Err f) = Err f.rule

-- a graph goes up to the end, and a withdrawal ends after its coordinate
abbrev pub import_at : List ℕ → ℕ → List ℕ → Result LoggedCommand RecordRule
import_at bytes at coordinate = as_views (graph_at (drop at bytes)) >>= λ views. Ok (Imports coordinate views)

abbrev pub withdrawal_at : List ℕ → ℕ → List ℕ → Result LoggedCommand RecordRule
withdrawal_at bytes at coordinate = unless_broken (at == length bytes) Trailing >>= λ end. Ok (Withdraws coordinate)

abbrev pub content_at : List ℕ → Bool → ℕ → List ℕ → Result LoggedCommand RecordRule
content_at bytes true at coordinate = import_at bytes at coordinate
content_at bytes false at coordinate = withdrawal_at bytes at coordinate

unfoldable pub entry_at : List ℕ → Result LogEntry RecordRule
entry_at bytes = do
  first ← u4_at bytes 0
  magic ← unless_broken (first == 0x4643474b) Magic
  version ← u2_at bytes 4
  one ← unless_broken (version == 1) Version
  request ← u8_at bytes 6
  kind ← u1_at bytes 14
  known ← unless_broken (kind == 1 || kind == 2) Command
  size ← u2_at bytes 15
  text ← number.part_at Cut bytes 17 size
  coordinate ← as_coordinate (coordinate_of text)
  command ← content_at bytes (kind == 1) (17 + size) coordinate
  Ok (record { request = request; command = command })
