use Rattle.std.proofs.Common.{◌≡◌, ◌+◌, ◌-◌, ◌≤◌, length, codes}
use Rattle.std.specs.Prelude.{None}
use Rattle.fcg_grammar.specs.Rows.{rows, ended}
use Rattle.fcg_classfile.specs.declared.fault.ClassRule.TheVariants.{DoubleCode}
use Rattle.fcg_classfile.specs.Breaks.Attributes.{one_at}
use Rattle.fcg_classfile.specs.Breaks.Code.{code_at}
use Rattle.fcg_reader.specs.Internal.Members.{code_before, code_sites}
use Rattle.fcg_reader.proofs.members.read_attribute_rows.Given as goal

abbrev pub invariant-loop : goal.invariant-loop
invariant-loop l =
    (ended (rows (one_at (codes "Code") DoubleCode (code_at l.count) l.fn.names) (l.attributes - l.counter) l.counter (code_before l.fn.names l.place l.code)) ≡ ended (rows (one_at (codes "Code") DoubleCode (code_at l.count) l.fn.names) l.attributes 0 (code_before l.fn.names l.at None)))
    × (l.place ≤ length l.names.bytes)
    × (l.count + length (code_sites l.code) ≤ 1000000)
    × (l.names ≡ l.fn.names)
