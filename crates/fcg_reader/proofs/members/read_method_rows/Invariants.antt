use Rattle.std.proofs.Common.{◌≡◌, ◌-◌, ◌≤◌, length, []}
use Rattle.fcg_grammar.specs.Rows.{rows}
use Rattle.fcg_grammar.proofs.RowLemmas.{with_front}
use Rattle.fcg_classfile.specs.Breaks.Members.{method_at}
use Rattle.fcg_reader.specs.Internal.Members.{methods_before}
use Rattle.fcg_reader.proofs.members.read_method_rows.Given as goal

abbrev pub invariant-loop : goal.invariant-loop
invariant-loop l =
    (with_front l.table.methods (rows (method_at l.table.pool) (l.count - l.counter) l.counter (methods_before l.place l.table.methods)) ≡ rows (method_at l.fn.names) l.count 0 (methods_before l.at []))
    × (l.place ≤ length l.table.pool.bytes)
    × (l.table.pool ≡ l.fn.names)
    × (l.names ≡ l.fn.names)
