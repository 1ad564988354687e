-- What is known of a pool: the descriptors that were found among its texts, and the methods that its references name.
use Rattle.std.specs.Prelude.{◌≡◌, ℕ, List, Bool, true, false, slice_index_or, Option, Some, None, Ok, if◌then◌else◌}
use Rattle.fcg_views.specs.DescriptorSteps.{is_descriptor, is_field_descriptor}
use Rattle.fcg_classfile.specs.ClassFile.{is_one_of}
use Rattle.fcg_classfile.specs.Breaks.Pool.{Entries, text_of}
use Rattle.fcg_classfile.specs.Breaks.Code.{member_of}
use Rattle.fcg_reader.specs.declared.names.DescKind.{DescKind}
use Rattle.fcg_reader.specs.declared.names.DescKind.TheVariants.{Field, Method}
use Rattle.fcg_reader.specs.declared.rows.RefRow.{RefRow}
use Rattle.fcg_reader.specs.Internal.Rows.{ref_in}

-- whether a text is a descriptor of a kind
abbrev pub is_of_kind : DescKind → List ℕ → Bool
is_of_kind Field = is_field_descriptor
is_of_kind Method = is_descriptor

-- what was found to be a descriptor is one
abbrev pub AreTyped : Entries → DescKind → List Bool → Type 0
AreTyped pool kind typed = (i : ℕ) (text : List ℕ) → slice_index_or typed i false ≡ true → text_of pool i ≡ Ok text → is_of_kind kind text ≡ true

-- nothing was found
abbrev pub AllUntyped : List Bool → Type 0
AllUntyped typed = (i : ℕ) → slice_index_or typed i false ≡ false

-- the descriptors of a pool that are of a kind
pub record Descs : Type 0 where
  pub pool : Entries
  pub kind : DescKind

abbrev pub descs : Entries → DescKind → Descs
descs pool kind = record { pool = pool; kind = kind }

-- the tag of the reference that names a method: 10 is a Methodref, 11 an InterfaceMethodref
abbrev pub method_tag : RefRow → ℕ
method_tag row = if row.owner_is_interface_ref then 11 else 10

-- a row is the method that an index names for each site that may have its tag
abbrev pub IsMethodAt : Entries → ℕ → RefRow → Type 0
IsMethodAt pool index row = (tags : List ℕ) (at : ℕ) → is_one_of tags (method_tag row) ≡ true → member_of pool is_descriptor tags at index ≡ Ok (ref_in pool row)

-- what was found is the method that an index names
abbrev pub AreMethods : Entries → List (Option RefRow) → Type 0
AreMethods pool found = (i : ℕ) (row : RefRow) → slice_index_or found i None ≡ Some row → IsMethodAt pool i row

pub record IsKnown (pool : Entries) (fields methods : Descs) (found : List (Option RefRow)) : Type 0 where
  pub fields_are : fields ≡ descs pool Field
  pub methods_are : methods ≡ descs pool Method
  pub found_are : AreMethods pool found
