-- The code of a method (JVMS 4.7.3), with its sites and its calls of bootstrap methods. All places are counted from the
-- file's start but those of the instructions, which are counted from the code's.
use Rattle.std.specs.Prelude.{ℕ, zero, suc, ◌+◌, List, [], ◌∷◌, length, slice_index, Bool, true, false, ◌&&◌, nat_le, nat_lt, Option, Some, None, Result, Ok, Err, ◌==◌, if◌then◌else◌}
use Rattle.fcg_grammar.specs.Reading.{◌>>=◌, unless_broken}
use Rattle.fcg_grammar.specs.Rows.{rows, ended}
use Rattle.fcg_classfile.specs.declared.code.DynamicCall.{DynamicCall}
use Rattle.fcg_views.specs.declared.view.Ref.{Ref}
use Rattle.fcg_views.specs.declared.view.Site.{Site}
use Rattle.fcg_classfile.specs.declared.fault.ClassFault.{ClassFault}
use Rattle.fcg_classfile.specs.declared.fault.ClassRule.TheVariants.{WrongKind, EmptyName, Descriptor, CodeLength, CodeCut, ManySites, Trailing}
use Rattle.fcg_classfile.specs.ClassFile.{is_one_of}
use Rattle.fcg_views.specs.DescriptorSteps.{is_descriptor, is_field_descriptor}
use Rattle.fcg_classfile.specs.Sites.{Target, ToMethod, ToField, ToType, SiteForm, site_form, is_dynamic, Found, nothing, both}
use Rattle.fcg_classfile.specs.Breaks.Fault.{fault, at_place, at_opcode}
use Rattle.fcg_classfile.specs.Breaks.Number.{u2_at, u4_at, part_at}
use Rattle.fcg_classfile.specs.Breaks.Pool.{Entries, reference_of, dynamic_of}
use Rattle.fcg_classfile.specs.Breaks.Names.{type_of}
use Rattle.fcg_classfile.specs.Breaks.Instructions.{next_at, operand_at}
use Rattle.fcg_classfile.specs.Breaks.Attributes.{attributes_at}

-- the member of a type that an index names, by a constant of one of these tags and with a descriptor that passes a test;
-- a fault is at a place
unfoldable pub member_of : Entries → (List ℕ → Bool) → List ℕ → ℕ → ℕ → Result Ref ClassFault
member_of pool is_typed tags at index = do
  r ← at_place at index (reference_of pool index)
  allowed ← unless_broken (is_one_of tags r.tag) (fault at index WrongKind)
  owned ← unless_broken (nat_lt 0 (length r.owner)) (fault at 0 EmptyName)
  named ← unless_broken (nat_lt 0 (length r.name)) (fault at 0 EmptyName)
  typed ← unless_broken (is_typed r.desc) (fault at 0 Descriptor)
  Ok (record { owner = r.owner; owner_is_interface_ref = r.tag == 11; name = r.name; desc = r.desc })

-- a type alone
abbrev pub type_ref : List ℕ → Ref
type_ref name = record { owner = name; owner_is_interface_ref = false; name = []; desc = [] }

-- what a site names by an index
abbrev pub target_of : Entries → Target → ℕ → ℕ → Result Ref ClassFault
target_of pool (ToMethod tags) at index = member_of pool is_descriptor tags at index
target_of pool ToField at index = member_of pool is_field_descriptor (9 ∷ []) at index
target_of pool ToType at index = type_of pool at index >>= λ name. Ok (type_ref name)

-- the site of a form that has an index at a pc, where so many sites of the class are before it; a fault is at a place
unfoldable pub site_of : Entries → SiteForm → ℕ → ℕ → ℕ → ℕ → Result Site ClassFault
site_of pool form at pc index count = do
  target ← target_of pool form.target at index
  counted ← unless_broken (nat_lt count 1000000) (fault at 0 ManySites)
  Ok (record { pc = pc; kind = form.kind; target = target })

-- The code that begins at a place of the file. So many sites of the class are before the ones that are read.
module _ (pool : Entries) (begin : ℕ) (code : List ℕ) where
  abbrev pub sites_by : Option SiteForm → ℕ → ℕ → Result (List Site) ClassFault
  sites_by None pc count = Ok []
  sites_by (Some form) pc count = site_of pool form (begin + pc) pc (operand_at code pc) count >>= λ s. Ok (s ∷ [])

  abbrev pub calls_by : Bool → ℕ → Result (List DynamicCall) ClassFault
  calls_by false pc = Ok []
  calls_by true pc = do
    n ← at_place (begin + pc) (operand_at code pc) (dynamic_of pool (operand_at code pc))
    Ok (record { pc = pc; bootstrap = n } ∷ [])

  -- what the instruction whose opcode is at a place of the code has
  unfoldable pub found_at : ℕ → ℕ → Result Found ClassFault
  found_at pc count = do
    sites ← sites_by (site_form (slice_index code pc)) pc count
    calls ← calls_by (is_dynamic (slice_index code pc)) pc
    Ok (record { sites = sites; calls = calls })

  -- What the instructions have from a place on, up to the code's end. The first number bounds the instructions: it
  -- never runs out where it is above the number of the bytes that are left.
  unfoldable pub found_from : ℕ → ℕ → ℕ → Result Found ClassFault
  found_from zero pc count = Err (fault (begin + pc) 0 CodeCut)
  found_from (suc fuel) pc count =
      if length code == pc then Ok nothing else (do
        next ← at_opcode (begin + pc) (next_at code pc)
        here ← found_at pc count
        others ← found_from fuel next (count + length here.sites)
        Ok (both here others))

  abbrev pub found_of : ℕ → Result Found ClassFault
  found_of count = found_from (1 + length code) 0 count

-- a row of the exception table
unfoldable pub handler_at : List ℕ → ℕ → ℕ → Result (Unit {0} × ℕ) ClassFault
handler_at bytes k at = part_at bytes at 8 0 >>= λ row. Ok (tt, at + 8)

-- the place after the exception table whose count stands at a place
unfoldable pub handlers_at : List ℕ → ℕ → Result ℕ ClassFault
handlers_at bytes at = do
  count ← u2_at bytes at 0
  ended (rows (handler_at bytes) count 0 (at + 2))

-- what stands from a place up to the end of the content, where so many sites of the class are before it
unfoldable pub code_at : ℕ → Entries → ℕ → Result Found ClassFault
code_at count pool at = do
  stack ← u2_at pool.bytes at 0
  locals ← u2_at pool.bytes (at + 2) 0
  n ← u4_at pool.bytes (at + 4) 0
  sized ← unless_broken (nat_le 1 n && nat_le n 65535) (fault (at + 4) 0 CodeLength)
  code ← part_at pool.bytes (at + 8) n 0
  found ← found_of pool (at + 8) code count
  after_handlers ← handlers_at pool.bytes (at + 8 + n)
  after ← attributes_at pool after_handlers
  ended ← unless_broken (length pool.bytes == after) (fault after 0 Trailing)
  Ok found
