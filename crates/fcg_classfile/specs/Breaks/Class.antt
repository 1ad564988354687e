-- The class file (JVMS 4.1).
use Rattle.std.specs.Prelude.{ℕ, ◌+◌, List, length, ◌&&◌, [], nat_le, nat_lt, codes, Option, Some, None, Result, Ok, ◌==◌, if◌then◌else◌}
use Rattle.fcg_grammar.specs.Reading.{◌>>=◌, unless_broken}
use Rattle.fcg_grammar.specs.Rows.{rows}
use Rattle.fcg_views.specs.declared.view.View.{View}
use Rattle.fcg_views.specs.declared.view.Field.{Field}
use Rattle.fcg_views.specs.declared.view.Method.{Method}
use Rattle.fcg_classfile.specs.declared.fault.ClassFault.{ClassFault}
use Rattle.fcg_classfile.specs.declared.fault.ClassRule.TheVariants.{Magic, Version, Bootstrap, Trailing}
use Rattle.fcg_classfile.specs.ClassFile.{BootstrapMethod}
use Rattle.fcg_classfile.specs.Breaks.Fault.{fault, in_pool}
use Rattle.fcg_classfile.specs.Breaks.Number.{u2_at, u4_at}
use Rattle.fcg_classfile.specs.Breaks.Pool.{Entries, pool_at}
use Rattle.fcg_classfile.specs.Breaks.Names.{type_of}
use Rattle.fcg_classfile.specs.Breaks.Attributes.{ones_at}
use Rattle.fcg_classfile.specs.Breaks.Bootstrap.{rows_at}
use Rattle.fcg_classfile.specs.Breaks.Members.{fields_at, methods_at, all_finished}

-- cafebabe, and a major version from 45 to 65 with any minor
unfoldable pub header_kept : List ℕ → Result (Unit {0}) ClassFault
header_kept bytes = do
  magic ← u4_at bytes 0 0
  kept ← unless_broken (magic == 0xcafebabe) (fault 0 0 Magic)
  minor ← u2_at bytes 4 0
  major ← u2_at bytes 6 0
  unless_broken (nat_le 45 major && nat_le major 65) (fault 6 0 Version)

-- the name of the type whose index stands at a place
unfoldable pub type_at : Entries → ℕ → Result (List ℕ) ClassFault
type_at pool at = u2_at pool.bytes at 0 >>= type_of pool at

-- an index of 0 names no superclass
unfoldable pub super_at : Entries → ℕ → Result (Option (List ℕ)) ClassFault
super_at pool at = do
  index ← u2_at pool.bytes at 0
  if index == 0 then Ok None else (type_at pool at >>= λ name. Ok (Some name))

unfoldable pub interface_at : Entries → ℕ → ℕ → Result (List ℕ × ℕ) ClassFault
interface_at pool k at = type_at pool at >>= λ name. Ok (name, at + 2)

-- the interfaces whose count stands at a place, and the place after them
unfoldable pub interfaces_at : Entries → ℕ → Result (List (List ℕ) × ℕ) ClassFault
interfaces_at pool at = do
  count ← u2_at pool.bytes at 0
  rows (interface_at pool) count 0 (at + 2)

-- without an attribute BootstrapMethods there is no bootstrap method
abbrev pub rows_or_none : Option (ℕ × List BootstrapMethod) → List BootstrapMethod
rows_or_none None = []
rows_or_none (Some (at, rows)) = rows

-- the fields, the methods, the class's attributes, then the calls of the methods, and the end of the file
unfoldable pub members_at : Entries → ℕ → Result (List Field × List Method) ClassFault
members_at pool at = do
  fields ← fields_at pool at
  methods ← methods_at pool fields.1
  attributes ← ones_at (codes "BootstrapMethods") Bootstrap rows_at pool methods.1
  whole ← all_finished pool (rows_or_none attributes.read) methods.0
  ended ← unless_broken (length pool.bytes == attributes.at) (fault attributes.at 0 Trailing)
  Ok (fields.0, whole)

-- what stands after the pool
unfoldable pub body_at : Entries → ℕ → Result View ClassFault
body_at pool at = do
  flags ← u2_at pool.bytes at 0
  name ← type_at pool (at + 2)
  super ← super_at pool (at + 4)
  interfaces ← interfaces_at pool (at + 6)
  members ← members_at pool interfaces.1
  Ok (record { name = name; flags = flags; superclass = super; interfaces = interfaces.0; fields = members.0; methods = members.1 })

-- a module has no view
abbrev pub shown : View → Option View
shown v = if nat_lt v.flags 0x8000 then Some v else None

unfoldable pub class_of : List ℕ → Result (Option View) ClassFault
class_of bytes = do
  header ← header_kept bytes
  pool ← in_pool (pool_at bytes 8)
  view ← body_at pool.0 pool.1
  Ok (shown view)
