use Rattle.std.proofs.Common.{◌≡◌, ℕ, List, ◌-◌, ◌≤◌, length}
use Rattle.std.specs.Prelude.{Option}
use Rattle.std.specs.List.{flat_map}
use Rattle.fcg_grammar.specs.Rows.{rows}
use Rattle.fcg_grammar.proofs.RowLemmas.{with_front}
use Rattle.fcg_views.specs.declared.view.View.{View}
use Rattle.fcg_class.specs.Bundle.{some_of, entry_at}
use Rattle.fcg_class.specs.Internal.Entries.{ArePaths, entries_before, before_first}
use Rattle.fcg_class.proofs.bundle.read_entries.Given as goal

abbrev pub invariant-loop-entry : goal.invariant-loop-entry
invariant-loop-entry l =
    ((before : List (List ℕ)) × ArePaths l.paths before × (front : List (Option View)) × (l.views ≡ flat_map some_of front) × (with_front front (rows (entry_at l.bytes) (l.count - l.entry) l.entry (entries_before l.ahead before)) ≡ rows (entry_at l.bytes) l.count 0 (before_first l.at)))
    × (l.ahead.at ≤ length l.bytes)
