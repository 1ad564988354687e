use Rattle.std.proofs.Common.{◌≡◌, ◌-◌, ◌≤◌, length, map}
use Rattle.fcg_grammar.specs.Rows.{rows}
use Rattle.fcg_grammar.proofs.RowLemmas.{with_front}
use Rattle.fcg_classfile.specs.Breaks.Members.{field_at}
use Rattle.fcg_reader.specs.Internal.Rows.{field_in}
use Rattle.fcg_reader.proofs.fields.read_field_rows.Given as goal

abbrev pub invariant-loop : goal.invariant-loop
invariant-loop l =
    (with_front (map (field_in l.fn.names) l.fields.items) (rows (field_at l.fn.names) (l.count - l.counter) l.counter l.place) ≡ rows (field_at l.fn.names) l.count 0 l.at)
    × (l.place ≤ length l.names.bytes)
    × (l.names ≡ l.fn.names)
