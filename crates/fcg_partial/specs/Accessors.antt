-- What the accessors answer: the rows of a graph, by their numbers.
use Rattle.std.specs.Prelude.{◌≡◌, ◌<◌, ℕ, List, [], length, ◌==◌, slice_get, slice_index_or, Some, None, IfSome}
use Rattle.fcg_partial.specs.declared.row.TypeRow.{TypeRow}
use Rattle.fcg_partial.specs.declared.row.FieldRow.{FieldRow}
use Rattle.fcg_partial.specs.declared.row.MethodRow.{MethodRow}
use Rattle.fcg_partial.specs.declared.row.SiteRow.{SiteRow}
use Rattle.fcg_partial.specs.declared.row.RefRow.{RefRow}
use Rattle.fcg_partial.specs.Graph.{Graph, StoredType, StoredField, StoredMethod, StoredSite, number_at}

abbrev pub row_of_type : StoredType → TypeRow
row_of_type t = record { name = t.name; flags = t.flags; superclass = t.superclass; interfaces = length t.interfaces; fields = length t.fields; methods = length t.methods }

abbrev pub row_of_field : StoredField → FieldRow
row_of_field f = record { name = f.name; desc = f.desc; flags = f.flags }

abbrev pub row_of_method : StoredMethod → MethodRow
row_of_method m = record { name = m.name; desc = m.desc; flags = m.flags; sites = length m.sites }

abbrev pub row_of_site : StoredSite → SiteRow
row_of_site s = record { pc = s.pc; kind = s.kind; reference = s.reference }

abbrev pub row_of_ref : List ℕ → RefRow
row_of_ref row = record { owner = number_at 0 row; owner_is_interface_ref = number_at 1 row == 1; name = number_at 2 row; desc = number_at 3 row }

-- ---- the row of a number
abbrev pub HasType : Graph → ℕ → StoredType → Type 0
HasType g i t = slice_get g.types i ≡ Some t

abbrev pub HasInterface : Graph → ℕ → ℕ → ℕ → Type 0
HasInterface g i j n = (t : StoredType) × HasType g i t × (slice_get t.interfaces j ≡ Some n)

abbrev pub HasField : Graph → ℕ → ℕ → StoredField → Type 0
HasField g i j f = (t : StoredType) × HasType g i t × (slice_get t.fields j ≡ Some f)

abbrev pub HasMethod : Graph → ℕ → ℕ → StoredMethod → Type 0
HasMethod g i k m = (t : StoredType) × HasType g i t × (slice_get t.methods k ≡ Some m)

abbrev pub HasSite : Graph → ℕ → ℕ → ℕ → StoredSite → Type 0
HasSite g i k s x = (m : StoredMethod) × HasMethod g i k m × (slice_get m.sites s ≡ Some x)

abbrev pub HasRef : Graph → ℕ → List ℕ → Type 0
HasRef g r row = slice_get g.refs r ≡ Some row

-- ---- the type of a number and a method of it; where there is none, one without rows
abbrev pub no_type : StoredType
no_type = record { name = 0; flags = 0; superclass = None; interfaces = []; fields = []; methods = [] }

abbrev pub no_method : StoredMethod
no_method = record { name = 0; desc = 0; flags = 0; sites = [] }

abbrev pub type_in : Graph → ℕ → StoredType
type_in g i = slice_index_or g.types i no_type

abbrev pub method_in : Graph → ℕ → ℕ → StoredMethod
method_in g i k = slice_index_or (type_in g i).methods k no_method

-- ---- the counts of a row, and its numbers, which are below the counts of the tables
pub record HasCountsOf (t : StoredType) (row : TypeRow) : Type 0 where
  pub interfaces : row.interfaces ≡ length t.interfaces
  pub fields : row.fields ≡ length t.fields
  pub methods : row.methods ≡ length t.methods

abbrev pub AreBelow : ℕ → ℕ → ℕ → Type 0
AreBelow count m n = (m < count) × (n < count)

abbrev pub IsRowBelow : Graph → RefRow → Type 0
IsRowBelow g row = (row.owner < length g.names) × (row.name < length g.names) × (row.desc < length g.names)

abbrev pub IsSuperBelow : Graph → TypeRow → Type 0
IsSuperBelow g row = IfSome row.superclass (λ n. n < length g.names)
