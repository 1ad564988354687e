use Rattle.std.proofs.Common.{◌≡◌, ℕ, ◌-◌, ◌≤◌, List, length, codes}
use Rattle.std.specs.Prelude.{Option, None}
use Rattle.fcg_grammar.specs.Rows.{rows, ended}
use Rattle.fcg_classfile.specs.declared.fault.ClassRule.TheVariants.{Bootstrap}
use Rattle.fcg_classfile.specs.ClassFile.{BootstrapMethod}
use Rattle.fcg_classfile.specs.Breaks.Attributes.{one_at}
use Rattle.fcg_classfile.specs.Breaks.Bootstrap.{rows_at}
use Rattle.fcg_reader.specs.Internal.Class.{rows_if_read, rows_if_any, rows_before}
use Rattle.fcg_reader.proofs.class.read_attribute_rows.Given as goal

abbrev pub invariant-loop : goal.invariant-loop
invariant-loop l =
    ((read : Option (ℕ × List BootstrapMethod)) × (rows_if_read read ≡ rows_if_any l.found)
    × (ended (rows (one_at (codes "BootstrapMethods") Bootstrap rows_at l.pool) (l.attributes - l.counter) l.counter (rows_before l.place read)) ≡ ended (rows (one_at (codes "BootstrapMethods") Bootstrap rows_at l.pool) l.attributes 0 (rows_before l.at None))))
    × (l.place ≤ length l.pool.bytes)
