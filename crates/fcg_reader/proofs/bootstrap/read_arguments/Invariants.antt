use Rattle.std.proofs.Common.{◌≡◌, ◌-◌, ◌≤◌, length}
use Rattle.fcg_grammar.specs.Rows.{rows}
use Rattle.fcg_grammar.proofs.RowLemmas.{with_front}
use Rattle.fcg_classfile.specs.Breaks.Bootstrap.{argument_at}
use Rattle.fcg_reader.proofs.bootstrap.read_arguments.Given as goal

abbrev pub invariant-loop : goal.invariant-loop
invariant-loop l =
    (with_front l.arguments.items (rows (argument_at l.bytes) (l.count - l.counter) l.counter l.place) ≡ rows (argument_at l.bytes) l.count 0 l.at)
    × (l.place ≤ length l.bytes)
