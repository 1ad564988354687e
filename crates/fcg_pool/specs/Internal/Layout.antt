-- What the code says of the forms of instructions.
use Rattle.std.specs.Prelude.{ℕ, nat_le, ◌==◌, Option, Some, None, if◌then◌else◌}
use Rattle.fcg_classfile.specs.Instructions.{Form, Fixed, Table, Lookup, Wide}
use Rattle.fcg_pool.specs.declared.instruction.Layout.{Layout}
use Rattle.fcg_pool.specs.declared.instruction.Layout.TheVariants as layouts

abbrev pub form_in : Layout → Form
form_in (layouts.Fixed n) = Fixed n
form_in layouts.Table = Table
form_in layouts.Lookup = Lookup
form_in layouts.Wide = Wide

abbrev pub form_if_any : Option Layout → Option Form
form_if_any None = None
form_if_any (Some layout) = Some (form_in layout)

-- how many bytes follow the opcode at least
abbrev pub least_after : Layout → ℕ
least_after (layouts.Fixed n) = n
least_after layouts.Table = 2
least_after layouts.Lookup = 2
least_after layouts.Wide = 2

-- the form that a number of the table tells
abbrev pub form_of_number : ℕ → Option Form
form_of_number n =
    if nat_le n 4 then Some (Fixed n)
    else (if n == 5 then Some Table else (if n == 6 then Some Lookup else (if n == 7 then Some Wide else (if n == 9 then Some (Fixed 2) else (if n == 10 then Some (Fixed 4) else None)))))
