-- The shapes and constants of the code, as those of the definition.
use Rattle.std.specs.Prelude.{ℕ, false, Option, Some, None}
use Rattle.fcg_classfile.specs.ClassFile as file
use Rattle.fcg_classfile.specs.ClassFile.{Constant}
use Rattle.fcg_classfile.specs.Breaks.Pool as pool
use Rattle.fcg_pool.specs.declared.entries.Next.{Next}
use Rattle.fcg_pool.specs.declared.pool.Indexes.{Indexes}
use Rattle.fcg_pool.specs.declared.constant.Shape.{Shape}
use Rattle.fcg_pool.specs.declared.constant.Shape.TheVariants as shapes
use Rattle.fcg_pool.specs.declared.constant.Entry.{Entry}
use Rattle.fcg_pool.specs.declared.constant.Entry.TheVariants.{Utf8, Plain, Named, Pair, Handle}

abbrev pub shape_if_any : Option Shape → Option file.Shape
shape_if_any None = None
shape_if_any (Some shapes.Text) = Some file.Text
shape_if_any (Some (shapes.Bytes n)) = Some (file.Bytes n)
shape_if_any (Some shapes.One) = Some file.One
shape_if_any (Some shapes.Two) = Some file.Two
shape_if_any (Some shapes.Kinded) = Some file.Kinded

abbrev pub entry_constant : Entry → Constant
entry_constant (Utf8 text) = file.Utf8 text.now
entry_constant (Plain tag bytes) = file.Plain tag bytes.now
entry_constant (Named tag i) = file.Named tag i
entry_constant (Pair tag i j) = file.Pair tag i j
entry_constant (Handle kind i) = file.Handle kind i

abbrev pub indexes_of : Indexes → pool.Indexes
indexes_of x = record { tag = x.tag; first = x.first; second = x.second }

abbrev pub next_of : Next → pool.Next
next_of n = record { at = n.at; second = n.second }

-- before the first constant
abbrev pub before_first : ℕ → pool.Next
before_first at = record { at = at; second = false }
