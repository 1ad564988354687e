-- How a stored graph is read, from front to back, and its first fault.
use Rattle.std.specs.Prelude.{ℕ, zero, suc, ◌+◌, ◌*◌, ◌==◌, Bool, true, false, not, List, [], ◌∷◌, ◌++◌, length, nat_lt, nat_eq, Option, Some, None, Result, Ok, Err, if◌then◌else◌}
use Rattle.std.specs.List.{list_any}
use Rattle.std.specs.Cmp.Lexicographic.{pointwise}
use Rattle.std.specs.Ordering.{is_lt}
use Rattle.fcg_grammar.specs.Reading.{◌>>=◌, unless_broken}
use Rattle.fcg_grammar.specs.Rows.{rows}
use Rattle.fcg_views.specs.declared.view.View.{View}
use Rattle.fcg_views.specs.declared.view.SiteKind.{SiteKind}
use Rattle.fcg_views.specs.declared.view.SiteKind.TheVariants as kinds
use Rattle.fcg_views.specs.declared.view.HandleKind.TheVariants as handles
use Rattle.fcg_partial.specs.declared.fault.RecordFault.{RecordFault}
use Rattle.fcg_partial.specs.declared.fault.RecordRule.TheVariants.{Magic, Version, Order, Index, Kind, DoubleMethod, ManySites, Trailing, Unused}
use Rattle.fcg_partial.specs.Fault.{fault, u1_at, u2_at, u4_at, part_at}
use Rattle.fcg_grammar.specs.Table.{order}
use Rattle.fcg_partial.specs.Graph.{Graph, StoredType, StoredField, StoredMethod, StoredSite, kind_number, name_uses, ref_uses_of}
use Rattle.fcg_partial.specs.Views.{shown}

-- a row of a table that rises: where the next stands, and the one before it
pub record TablePlace : Type 0 where
  pub at : ℕ
  pub last : Option (List ℕ)

abbrev pub is_above : Option (List ℕ) → List ℕ → Bool
is_above None row = true
is_above (Some last) row = is_lt (order last row)

unfoldable pub name_at : List ℕ → ℕ → TablePlace → Result (List ℕ × TablePlace) RecordFault
name_at bytes k s = do
  n ← u2_at bytes s.at
  name ← part_at bytes (s.at + 2) n
  rises ← unless_broken (is_above s.last name) (fault s.at Order)
  Ok (name, record { at = s.at + 2 + n; last = Some name })

-- a number of a table of n rows
unfoldable pub index_at : List ℕ → ℕ → ℕ → Result ℕ RecordFault
index_at bytes n at = do
  k ← u4_at bytes at
  below ← unless_broken (nat_lt k n) (fault at Index)
  Ok k

unfoldable pub flag_at : List ℕ → ℕ → Result ℕ RecordFault
flag_at bytes at = do
  b ← u1_at bytes at
  flag ← unless_broken (nat_lt b 2) (fault at Kind)
  Ok b

unfoldable pub ref_at : List ℕ → ℕ → ℕ → TablePlace → Result (List ℕ × TablePlace) RecordFault
ref_at bytes names k s = do
  owner ← index_at bytes names s.at
  interface ← flag_at bytes (s.at + 4)
  name ← index_at bytes names (s.at + 4 + 1)
  desc ← index_at bytes names (s.at + 4 + 1 + 4)
  rises ← unless_broken (is_above s.last (owner ∷ interface ∷ name ∷ desc ∷ [])) (fault s.at Order)
  Ok (owner ∷ interface ∷ name ∷ desc ∷ [], record { at = s.at + 4 + 1 + 4 + 4; last = Some (owner ∷ interface ∷ name ∷ desc ∷ []) })

-- ---- types
abbrev pub all_kinds : List SiteKind
all_kinds = kinds.Virtual ∷ kinds.Interface ∷ kinds.Special ∷ kinds.Static ∷ kinds.New ∷ kinds.StaticField ∷ kinds.Handle handles.K5 ∷ kinds.Handle handles.K6 ∷ kinds.Handle handles.K7 ∷ kinds.Handle handles.K8 ∷ kinds.Handle handles.K9 ∷ []

abbrev pub first_kind : List SiteKind → ℕ → Option SiteKind
first_kind [] b = None
first_kind (k ∷ ks) b = if kind_number k == b then Some k else first_kind ks b

unfoldable pub kind_of : ℕ → Option SiteKind
kind_of b = first_kind all_kinds b

-- the kind whose byte stands at a place
abbrev pub known_kind : ℕ → Option SiteKind → Result SiteKind RecordFault
known_kind at None = Err (fault at Kind)
known_kind at (Some kind) = Ok kind

abbrev pub kind_at : List ℕ → ℕ → Result SiteKind RecordFault
kind_at bytes at = do
  b ← u1_at bytes at
  known_kind at (kind_of b)

unfoldable pub site_at : List ℕ → ℕ → ℕ → ℕ → Result (StoredSite × ℕ) RecordFault
site_at bytes refs k at = do
  pc ← u2_at bytes at
  kind ← kind_at bytes (at + 2)
  reference ← index_at bytes refs (at + 2 + 1)
  Ok (record { pc = pc; kind = kind; reference = reference }, at + 2 + 1 + 4)

-- the methods before it, and their sites
pub record Earlier : Type 0 where
  pub at : ℕ
  pub keys : List (List ℕ)
  pub sites : ℕ

unfoldable pub method_at : List ℕ → ℕ → ℕ → ℕ → Earlier → Result (StoredMethod × Earlier) RecordFault
method_at bytes names refs k s = do
  name ← index_at bytes names s.at
  desc ← index_at bytes names (s.at + 4)
  fresh ← unless_broken (not (list_any (pointwise nat_eq (name ∷ desc ∷ [])) s.keys)) (fault s.at DoubleMethod)
  flags ← u2_at bytes (s.at + 4 + 4)
  count ← u4_at bytes (s.at + 4 + 4 + 2)
  few ← unless_broken (nat_lt (s.sites + count) 1000001) (fault (s.at + 4 + 4 + 2) ManySites)
  sites ← rows (site_at bytes refs) count 0 (s.at + 4 + 4 + 2 + 4)
  Ok (record { name = name; desc = desc; flags = flags; sites = sites.0 }, record { at = sites.1; keys = s.keys ++ (name ∷ desc ∷ []) ∷ []; sites = s.sites + count })

unfoldable pub field_at : List ℕ → ℕ → ℕ → ℕ → Result (StoredField × ℕ) RecordFault
field_at bytes names k at = do
  name ← index_at bytes names at
  desc ← index_at bytes names (at + 4)
  flags ← u2_at bytes (at + 4 + 4)
  Ok (record { name = name; desc = desc; flags = flags }, at + 4 + 4 + 2)

unfoldable pub interface_at : List ℕ → ℕ → ℕ → ℕ → Result (ℕ × ℕ) RecordFault
interface_at bytes names k at = do
  name ← index_at bytes names at
  Ok (name, at + 4)

abbrev pub some_index : List ℕ → ℕ → ℕ → Bool → Result (Option ℕ) RecordFault
some_index bytes names at true = Ok None
some_index bytes names at false = index_at bytes names at >>= λ k. Ok (Some k)

unfoldable pub super_at : List ℕ → ℕ → ℕ → Result (Option ℕ) RecordFault
super_at bytes names at = do
  n ← u4_at bytes at
  some_index bytes names at (n == 0xffffffff)

unfoldable pub type_at : List ℕ → ℕ → ℕ → ℕ → ℕ → Result (StoredType × ℕ) RecordFault
type_at bytes names refs k at = do
  name ← index_at bytes names at
  flags ← u2_at bytes (at + 4)
  super ← super_at bytes names (at + 4 + 2)
  many ← u2_at bytes (at + 4 + 2 + 4)
  interfaces ← rows (interface_at bytes names) many 0 (at + 4 + 2 + 4 + 2)
  more ← u2_at bytes interfaces.1
  fields ← rows (field_at bytes names) more 0 (interfaces.1 + 2)
  most ← u2_at bytes fields.1
  methods ← rows (method_at bytes names refs) most 0 (record { at = fields.1 + 2; keys = []; sites = 0 })
  Ok (record { name = name; flags = flags; superclass = super; interfaces = interfaces.0; fields = fields.0; methods = methods.0 }, methods.1.at)

-- ---- the whole
unfoldable pub names_at : List ℕ → ℕ → Result (List (List ℕ) × ℕ) RecordFault
names_at bytes at = do
  count ← u4_at bytes at
  read ← rows (name_at bytes) count 0 (record { at = at + 4; last = None })
  Ok (read.0, read.1.at)

unfoldable pub refs_at : List ℕ → ℕ → ℕ → Result (List (List ℕ) × ℕ) RecordFault
refs_at bytes names at = do
  count ← u4_at bytes at
  read ← rows (ref_at bytes names) count 0 (record { at = at + 4; last = None })
  Ok (read.0, read.1.at)

unfoldable pub types_at : List ℕ → ℕ → ℕ → ℕ → Result (List StoredType × ℕ) RecordFault
types_at bytes names refs at = do
  count ← u4_at bytes at
  rows (type_at bytes names refs) count 0 (at + 4)

-- the first number below n that isn't used
abbrev pub unused_from : List ℕ → ℕ → ℕ → Option ℕ
unused_from uses zero k = None
unused_from uses (suc n) k = if list_any (λ u. u == k) uses then unused_from uses n (k + 1) else Some k

-- where the name of a number stands, from the first one on
abbrev pub name_place : List (List ℕ) → ℕ → ℕ
name_place names zero = 10
name_place [] (suc k) = 10
name_place (name ∷ names) (suc k) = 2 + length name + name_place names k

abbrev pub unused_at : (ℕ → ℕ) → Option ℕ → Result (Unit {0}) RecordFault
unused_at place None = Ok tt
unused_at place (Some k) = Err (fault (place k) Unused)

-- after all rows: the end, and then each name and each reference is used
abbrev pub finished : List ℕ → ℕ → ℕ → Graph → Result Graph RecordFault
finished bytes refs at g = do
  end ← unless_broken (at == length bytes) (fault at Trailing)
  used ← unused_at (name_place g.names) (unused_from (name_uses g) (length g.names) 0)
  used_too ← unused_at (λ k. refs + 4 + 13 * k) (unused_from (ref_uses_of g) (length g.refs) 0)
  Ok g

abbrev pub graph_with : List (List ℕ) → List (List ℕ) → List StoredType → Graph
graph_with names refs types = record { names = names; refs = refs; types = types }

unfoldable pub graph_at : List ℕ → Result Graph RecordFault
graph_at bytes = do
  first ← u4_at bytes 0
  magic ← unless_broken (first == 0x46434752) (fault 0 Magic)
  version ← u2_at bytes 4
  one ← unless_broken (version == 1) (fault 4 Version)
  names ← names_at bytes 6
  refs ← refs_at bytes (length names.0) names.1
  types ← types_at bytes (length names.0) (length refs.0) refs.1
  finished bytes names.1 types.1 (graph_with names.0 refs.0 types.0)

-- the views in these bytes, where they are a stored graph
abbrev pub views_of_graph : Result Graph RecordFault → List View
views_of_graph (Ok g) = shown g
views_of_graph (Err f) = []

unfoldable pub views_in : List ℕ → List View
views_in bytes = views_of_graph (graph_at bytes)
