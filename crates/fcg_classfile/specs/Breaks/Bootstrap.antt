-- Bootstrap methods (JVMS 4.7.23), and the handle sites of the calls that use them.
use Rattle.std.specs.Prelude.{ℕ, ◌+◌, List, [], ◌∷◌, length, Option, Some, None, Result, Ok, Err, ◌==◌}
use Rattle.std.specs.List.{slice_get}
use Rattle.fcg_grammar.specs.Reading.{◌>>=◌, unless_broken}
use Rattle.fcg_grammar.specs.Rows.{rows, carried}
use Rattle.fcg_classfile.specs.declared.code.DynamicCall.{DynamicCall}
use Rattle.fcg_views.specs.declared.view.Site.{Site}
use Rattle.fcg_classfile.specs.declared.fault.ClassFault.{ClassFault}
use Rattle.fcg_classfile.specs.declared.fault.ClassRule.TheVariants.{Bootstrap, Trailing}
use Rattle.fcg_classfile.specs.ClassFile.{Constant, Utf8, Plain, Named, Pair, Handle, BootstrapMethod}
use Rattle.fcg_classfile.specs.Sites.{SiteForm, handle_form, concat_sites}
use Rattle.fcg_classfile.specs.Breaks.Fault.{fault, at_place}
use Rattle.fcg_classfile.specs.Breaks.Number.{u2_at}
use Rattle.fcg_classfile.specs.Breaks.Pool.{Entries, constant_of, handle_in}
use Rattle.fcg_classfile.specs.Breaks.Code.{site_of}

-- ==== the attribute

unfoldable pub argument_at : List ℕ → ℕ → ℕ → Result (ℕ × ℕ) ClassFault
argument_at bytes k at = u2_at bytes at 0 >>= λ index. Ok (index, at + 2)

-- a bootstrap method, and the place after it; what its indexes name isn't looked at
unfoldable pub row_at : List ℕ → ℕ → ℕ → Result (BootstrapMethod × ℕ) ClassFault
row_at bytes k at = do
  handle ← u2_at bytes at 0
  count ← u2_at bytes (at + 2) 0
  arguments ← rows (argument_at bytes) count 0 (at + 4)
  Ok (record { handle = handle; arguments = arguments.0 }, arguments.1)

-- what stands from a place up to the end of the content
unfoldable pub rows_at : Entries → ℕ → Result (List BootstrapMethod) ClassFault
rows_at pool at = do
  count ← u2_at pool.bytes at 0
  read ← rows (row_at pool.bytes) count 0 (at + 2)
  ended ← unless_broken (length pool.bytes == read.1) (fault read.1 0 Trailing)
  Ok read.0

-- ==== handle sites: each takes how many sites of the class are before it, and gives how many there are with it

-- The call stands at a pc, and its opcode at a place of the file, where the faults are.
module _ (pool : Entries) (at pc : ℕ) where
  abbrev pub formed_sites : Option SiteForm → ℕ → ℕ → Result (List Site × ℕ) ClassFault
  formed_sites None index count = Ok ([], count)
  formed_sites (Some form) index count = site_of pool form at pc index count >>= λ s. Ok (s ∷ [], count + 1)

  abbrev pub constant_sites : Constant → ℕ → Result (List Site × ℕ) ClassFault
  constant_sites (Utf8 text) count = Ok ([], count)
  constant_sites (Plain tag bytes) count = Ok ([], count)
  constant_sites (Named tag i) count = Ok ([], count)
  constant_sites (Pair tag i j) count = Ok ([], count)
  constant_sites (Handle kind i) count = formed_sites (handle_form kind) i count

  unfoldable pub index_sites : ℕ → ℕ → Result (List Site × ℕ) ClassFault
  index_sites index count = do
    c ← at_place at index (constant_of pool index)
    constant_sites c count

  -- a method handle, and then the static arguments
  unfoldable pub row_sites : BootstrapMethod → ℕ → Result (List Site × ℕ) ClassFault
  row_sites b count = do
    handle ← at_place at b.handle (constant_of pool b.handle >>= handle_in)
    read ← carried index_sites (b.handle ∷ b.arguments) count
    Ok (concat_sites read.0, read.1)

abbrev pub row_of : ℕ → Option BootstrapMethod → Result BootstrapMethod ClassFault
row_of at None = Err (fault at 0 Bootstrap)
row_of at (Some b) = Ok b

-- the sites of a call in the code that begins at a place of the file
unfoldable pub call_sites : Entries → List BootstrapMethod → ℕ → DynamicCall → ℕ → Result (List Site × ℕ) ClassFault
call_sites pool rows begin call count = do
  b ← row_of (begin + call.pc) (slice_get rows call.bootstrap)
  row_sites pool (begin + call.pc) call.pc b count
