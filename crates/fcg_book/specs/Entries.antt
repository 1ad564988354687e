-- Commands and entries as they stand in a log: plain data, without addresses.
use Rattle.std.specs.Prelude.{ℕ, List}
use Rattle.std.specs.Arc.{arc_value}
use Rattle.fcg_views.specs.declared.view.View.{View}
use Rattle.fcg_book.specs.declared.entry.Command.{Command}
use Rattle.fcg_book.specs.declared.entry.Command.TheVariants as commands

-- an import has a coordinate and the views of its release, a withdrawal a coordinate alone
pub data LoggedCommand : Type 0 where
  Imports : List ℕ → List View → LoggedCommand
  Withdraws : List ℕ → LoggedCommand

abbrev pub coordinate_in : LoggedCommand → List ℕ
coordinate_in (Imports coordinate views) = coordinate
coordinate_in (Withdraws coordinate) = coordinate

-- a command with the number of its request
pub record LogEntry : Type 0 where
  pub request : ℕ
  pub command : LoggedCommand

-- what a command of the code says
abbrev pub command_of : Command → LoggedCommand
command_of (commands.Import coordinate graph) = Imports coordinate (arc_value graph)
command_of (commands.Withdraw coordinate) = Withdraws coordinate

-- the entry that a command becomes under a request's number
abbrev pub entry_of : ℕ → Command → LogEntry
entry_of request command = record { request = request; command = command_of command }
