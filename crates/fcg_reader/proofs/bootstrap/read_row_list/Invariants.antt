use Rattle.std.proofs.Common.{◌≡◌, ◌-◌, ◌≤◌, length}
use Rattle.fcg_grammar.specs.Rows.{rows}
use Rattle.fcg_grammar.proofs.RowLemmas.{with_front}
use Rattle.fcg_classfile.specs.Breaks.Bootstrap.{row_at}
use Rattle.fcg_reader.proofs.bootstrap.read_row_list.Given as goal

abbrev pub invariant-loop : goal.invariant-loop
invariant-loop l =
    (with_front l.list.items (rows (row_at l.bytes) (l.count - l.counter) l.counter l.place) ≡ rows (row_at l.bytes) l.count 0 l.at)
    × (l.place ≤ length l.bytes)
