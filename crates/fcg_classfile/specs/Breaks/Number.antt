-- Numbers and strings of bytes of a class file: what passes the file's end is cut, at its first byte.
use Rattle.std.specs.Prelude.{ℕ, List, Result}
use Rattle.fcg_grammar.specs.Number as number
use Rattle.fcg_classfile.specs.declared.fault.ClassFault.{ClassFault}
use Rattle.fcg_classfile.specs.declared.fault.ClassRule.TheVariants.{Cut}
use Rattle.fcg_classfile.specs.Breaks.Fault.{fault}

abbrev pub u2_at : List ℕ → ℕ → ℕ → Result ℕ ClassFault
u2_at bytes at index = number.u2_at (fault at index Cut) bytes at

abbrev pub u4_at : List ℕ → ℕ → ℕ → Result ℕ ClassFault
u4_at bytes at index = number.u4_at (fault at index Cut) bytes at

abbrev pub part_at : List ℕ → ℕ → ℕ → ℕ → Result (List ℕ) ClassFault
part_at bytes at n index = number.part_at (fault at index Cut) bytes at n
