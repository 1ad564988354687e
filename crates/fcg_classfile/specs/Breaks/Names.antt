-- Names of types.
use Rattle.std.specs.Prelude.{ℕ, List, length, nat_lt, Result, Ok}
use Rattle.fcg_grammar.specs.Reading.{◌>>=◌, unless_broken}
use Rattle.fcg_classfile.specs.declared.fault.ClassFault.{ClassFault}
use Rattle.fcg_classfile.specs.declared.fault.ClassRule.TheVariants.{EmptyName}
use Rattle.fcg_classfile.specs.Breaks.Fault.{fault, at_place}
use Rattle.fcg_classfile.specs.Breaks.Pool.{Entries, name_of, text_of}

-- the name of the type that an index names; a fault is at a place
unfoldable pub type_of : Entries → ℕ → ℕ → Result (List ℕ) ClassFault
type_of pool at index = do
  name ← at_place at index (name_of pool index >>= text_of pool)
  filled ← unless_broken (nat_lt 0 (length name)) (fault at 0 EmptyName)
  Ok name
