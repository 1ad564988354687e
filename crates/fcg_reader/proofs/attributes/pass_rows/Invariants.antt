use Rattle.std.proofs.Common.{◌≡◌, ◌-◌, ◌≤◌, length}
use Rattle.fcg_grammar.specs.Rows.{rows, ended}
use Rattle.fcg_classfile.specs.Breaks.Attributes.{over, attribute_at}
use Rattle.fcg_reader.proofs.attributes.pass_rows.Given as goal

abbrev pub invariant-loop : goal.invariant-loop
invariant-loop l =
    (ended (rows (attribute_at (over l.bytes l.pool)) (l.count - l.counter) l.counter l.place) ≡ ended (rows (attribute_at (over l.bytes l.pool)) l.count 0 l.at))
    × (l.place ≤ length l.bytes)
