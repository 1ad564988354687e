use Rattle.std.proofs.Common.{◌≡◌, ◌-◌, ◌≤◌, length, map}
use Rattle.fcg_grammar.specs.Rows.{rows}
use Rattle.fcg_grammar.proofs.RowLemmas.{with_front}
use Rattle.fcg_classfile.specs.Breaks.Class.{interface_at}
use Rattle.fcg_reader.specs.Internal.Rows.{text_in}
use Rattle.fcg_reader.proofs.class.read_interface_rows.Given as goal

abbrev pub invariant-loop : goal.invariant-loop
invariant-loop l =
    (with_front (map (text_in l.pool) l.interfaces.items) (rows (interface_at l.pool) (l.count - l.counter) l.counter l.place) ≡ rows (interface_at l.pool) l.count 0 l.at)
    × (l.place ≤ length l.pool.bytes)
