use Rattle.std.proofs.Common.{◌≡◌, ◌-◌, ◌≤◌, length}
use Rattle.fcg_grammar.specs.Rows.{rows, ended}
use Rattle.fcg_classfile.specs.Breaks.Code.{handler_at}
use Rattle.fcg_reader.proofs.code.pass_rows.Given as goal

abbrev pub invariant-loop : goal.invariant-loop
invariant-loop l =
    (ended (rows (handler_at l.bytes) (l.count - l.counter) l.counter l.place) ≡ ended (rows (handler_at l.bytes) l.count 0 l.at))
    × (l.place ≤ length l.bytes)
