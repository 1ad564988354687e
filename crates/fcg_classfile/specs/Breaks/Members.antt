-- Fields and methods (JVMS 4.5, 4.6), with the sites of the methods' code.
use Rattle.std.specs.Prelude.{ℕ, ◌+◌, List, [], ◌∷◌, ◌++◌, length, Bool, not, nat_lt, sum_by, codes, Option, Some, None, Result, Ok}
use Rattle.std.specs.List.{list_any}
use Rattle.fcg_grammar.specs.Reading.{◌>>=◌, unless_broken}
use Rattle.fcg_grammar.specs.Rows.{rows, carried}
use Rattle.fcg_classfile.specs.declared.code.DynamicCall.{DynamicCall}
use Rattle.fcg_views.specs.declared.view.Field.{Field}
use Rattle.fcg_views.specs.declared.view.Method.{Method}
use Rattle.fcg_views.specs.declared.view.Site.{Site}
use Rattle.fcg_classfile.specs.declared.fault.ClassFault.{ClassFault}
use Rattle.fcg_classfile.specs.declared.fault.ClassRule.TheVariants.{Descriptor, EmptyName, DoubleMethod, DoubleCode}
use Rattle.fcg_views.specs.DescriptorSteps.{is_descriptor, is_field_descriptor}
use Rattle.fcg_classfile.specs.ClassFile.{BootstrapMethod}
use Rattle.fcg_classfile.specs.Sites.{Found, concat_sites, merged}
use Rattle.fcg_views.specs.Valid.{site_count, is_alike}
use Rattle.fcg_classfile.specs.Breaks.Fault.{fault}
use Rattle.fcg_classfile.specs.Breaks.Number.{u2_at}
use Rattle.fcg_classfile.specs.Breaks.Pool.{Entries}
use Rattle.fcg_classfile.specs.Breaks.Attributes.{text_at, attributes_at, ones_at}
use Rattle.fcg_classfile.specs.Breaks.Code.{code_at}
use Rattle.fcg_classfile.specs.Breaks.Bootstrap.{call_sites}

-- what a field or a method declares
pub record Declared : Type 0 where
  pub flags : ℕ
  pub name : List ℕ
  pub desc : List ℕ

-- the flags, the name and the descriptor of the member that stands at a place
unfoldable pub declared_at : Entries → (List ℕ → Bool) → ℕ → Result Declared ClassFault
declared_at pool is_typed at = do
  flags ← u2_at pool.bytes at 0
  name ← text_at pool (at + 2)
  filled ← unless_broken (nat_lt 0 (length name)) (fault (at + 2) 0 EmptyName)
  desc ← text_at pool (at + 4)
  typed ← unless_broken (is_typed desc) (fault (at + 4) 0 Descriptor)
  Ok (record { flags = flags; name = name; desc = desc })

-- ==== fields

abbrev pub field_of : Declared → Field
field_of d = record { name = d.name; desc = d.desc; flags = d.flags }

unfoldable pub field_at : Entries → ℕ → ℕ → Result (Field × ℕ) ClassFault
field_at pool k at = do
  declared ← declared_at pool is_field_descriptor at
  after ← attributes_at pool (at + 6)
  Ok (field_of declared, after)

-- the fields whose count stands at a place, and the place after them
unfoldable pub fields_at : Entries → ℕ → Result (List Field × ℕ) ClassFault
fields_at pool at = do
  count ← u2_at pool.bytes at 0
  rows (field_at pool) count 0 (at + 2)

-- ==== methods, each with its calls of bootstrap methods

-- where the code of a method begins, and its calls
pub record Calls : Type 0 where
  pub begin : ℕ
  pub calls : List DynamicCall

-- a method with the sites of its instructions, and its calls
abbrev pub Unfinished : Type 0
Unfinished = Method × Calls

abbrev pub method_of : Declared → List Site → Method
method_of d sites = record { name = d.name; desc = d.desc; flags = d.flags; sites = sites }

-- the code stands 14 bytes after its attribute: behind the name and length, max stack, max locals and code length
abbrev pub unfinished : Declared → Option (ℕ × Found) → Unfinished
unfinished d None = (method_of d [], record { begin = 0; calls = [] })
unfinished d (Some (at, x)) = (method_of d x.sites, record { begin = at + 14; calls = x.calls })

-- where the next method stands, and the methods before it
pub record MethodsBefore : Type 0 where
  pub at : ℕ
  pub earlier : List Method

-- a method whose name and descriptor no earlier one has, and its attributes
unfoldable pub method_at : Entries → ℕ → MethodsBefore → Result (Unfinished × MethodsBefore) ClassFault
method_at pool k before = do
  declared ← declared_at pool is_descriptor before.at
  fresh ← unless_broken (not (list_any (λ earlier. is_alike earlier (method_of declared [])) before.earlier)) (fault before.at 0 DoubleMethod)
  read ← ones_at (codes "Code") DoubleCode (code_at (site_count before.earlier)) pool (before.at + 6)
  method ← Ok (unfinished declared read.read)
  Ok (method, record { at = read.at; earlier = before.earlier ++ method.0 ∷ [] })

-- the methods whose count stands at a place, and the place after them
unfoldable pub methods_at : Entries → ℕ → Result (List Unfinished × ℕ) ClassFault
methods_at pool at = do
  count ← u2_at pool.bytes at 0
  read ← rows (method_at pool) count 0 (record { at = at + 2; earlier = [] })
  Ok (read.0, read.1.at)

-- ==== the handle sites of their calls

abbrev pub with_sites : Method → List Site → Method
with_sites m sites = record { name = m.name; desc = m.desc; flags = m.flags; sites = sites }

-- a method whole, where so many sites of the class are before its handle sites, and how many there are with them
unfoldable pub finished : Entries → List BootstrapMethod → Unfinished → ℕ → Result (Method × ℕ) ClassFault
finished pool bootstrap m count = do
  handles ← carried (call_sites pool bootstrap m.1.begin) m.1.calls count
  Ok (with_sites m.0 (merged m.0.sites (concat_sites handles.0)), handles.1)

-- The sites of all instructions are before the handle sites.
unfoldable pub all_finished : Entries → List BootstrapMethod → List Unfinished → Result (List Method) ClassFault
all_finished pool bootstrap methods = do
  read ← carried (finished pool bootstrap) methods (sum_by (λ m. length m.0.sites) methods)
  Ok read.0
