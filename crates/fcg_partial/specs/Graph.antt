-- The stored graph as data, and how it is spelled.
use Rattle.std.specs.Prelude.{◌≡◌, ℕ, ◌+◌, ◌<◌, ◌≤◌, ◌^◌, List, [], ◌∷◌, ◌++◌, length, map, nat_eq, Option, Some, None, slice_index_or}
use Rattle.std.specs.List.{concat, flat_map, AllByRecursion, IsDistinct, Contains}
use Rattle.std.specs.Cmp.Lexicographic.{pointwise}
use Rattle.fcg_grammar.specs.Spell.{u2, u4}
use Rattle.fcg_views.specs.declared.view.SiteKind.{SiteKind}
use Rattle.fcg_views.specs.declared.view.SiteKind.TheVariants as kinds
use Rattle.fcg_views.specs.declared.view.HandleKind.TheVariants as handles
use Rattle.fcg_grammar.specs.Table.{Rises}

-- a number is a place in the table of names, or of references
pub record StoredSite : Type 0 where
  pub pc : ℕ
  pub kind : SiteKind
  pub reference : ℕ

pub record StoredMethod : Type 0 where
  pub name : ℕ
  pub desc : ℕ
  pub flags : ℕ
  pub sites : List StoredSite

pub record StoredField : Type 0 where
  pub name : ℕ
  pub desc : ℕ
  pub flags : ℕ

pub record StoredType : Type 0 where
  pub name : ℕ
  pub flags : ℕ
  pub superclass : Option ℕ
  pub interfaces : List ℕ
  pub fields : List StoredField
  pub methods : List StoredMethod

-- a reference is four numbers: its owner, 0 or 1 for an interface, its name, its descriptor
pub record Graph : Type 0 where
  pub names : List (List ℕ)
  pub refs : List (List ℕ)
  pub types : List StoredType

-- ---- the spelling
abbrev pub kind_number : SiteKind → ℕ
kind_number kinds.Virtual = 0
kind_number kinds.Interface = 1
kind_number kinds.Special = 2
kind_number kinds.Static = 3
kind_number kinds.New = 4
kind_number kinds.StaticField = 5
kind_number (kinds.Handle handles.K5) = 0x15
kind_number (kinds.Handle handles.K6) = 0x16
kind_number (kinds.Handle handles.K7) = 0x17
kind_number (kinds.Handle handles.K8) = 0x18
kind_number (kinds.Handle handles.K9) = 0x19

abbrev pub name_text : List ℕ → List ℕ
name_text name = u2 (length name) ++ name

abbrev pub number_at : ℕ → List ℕ → ℕ
number_at k row = slice_index_or row k 0

abbrev pub ref_text : List ℕ → List ℕ
ref_text row = concat (u4 (number_at 0 row) ∷ (number_at 1 row ∷ []) ∷ u4 (number_at 2 row) ∷ u4 (number_at 3 row) ∷ [])

abbrev pub site_text : StoredSite → List ℕ
site_text s = concat (u2 s.pc ∷ (kind_number s.kind ∷ []) ∷ u4 s.reference ∷ [])

abbrev pub field_text : StoredField → List ℕ
field_text f = concat (u4 f.name ∷ u4 f.desc ∷ u2 f.flags ∷ [])

abbrev pub method_text : StoredMethod → List ℕ
method_text m = concat (u4 m.name ∷ u4 m.desc ∷ u2 m.flags ∷ u4 (length m.sites) ∷ flat_map site_text m.sites ∷ [])

abbrev pub super_number : Option ℕ → ℕ
super_number None = 0xffffffff
super_number (Some n) = n

abbrev pub type_text : StoredType → List ℕ
type_text t = concat (
    u4 t.name ∷ u2 t.flags ∷ u4 (super_number t.superclass)
    ∷ u2 (length t.interfaces) ∷ flat_map u4 t.interfaces
    ∷ u2 (length t.fields) ∷ flat_map field_text t.fields
    ∷ u2 (length t.methods) ∷ flat_map method_text t.methods ∷ [])

abbrev pub magic : List ℕ
magic = 0x46 ∷ 0x43 ∷ 0x47 ∷ 0x52 ∷ []

abbrev pub spelling : Graph → List ℕ
spelling g = concat (
    magic ∷ u2 1
    ∷ u4 (length g.names) ∷ flat_map name_text g.names
    ∷ u4 (length g.refs) ∷ flat_map ref_text g.refs
    ∷ u4 (length g.types) ∷ flat_map type_text g.types ∷ [])

-- ---- what makes it well formed
-- the numbers of names that a row has
abbrev pub ref_uses : List ℕ → List ℕ
ref_uses row = number_at 0 row ∷ number_at 2 row ∷ number_at 3 row ∷ []

abbrev pub super_uses : Option ℕ → List ℕ
super_uses None = []
super_uses (Some n) = n ∷ []

abbrev pub field_uses : StoredField → List ℕ
field_uses f = f.name ∷ f.desc ∷ []

abbrev pub method_uses : StoredMethod → List ℕ
method_uses m = m.name ∷ m.desc ∷ []

abbrev pub type_uses : StoredType → List ℕ
type_uses t = t.name ∷ (super_uses t.superclass ++ (t.interfaces ++ (flat_map field_uses t.fields ++ flat_map method_uses t.methods)))

abbrev pub name_uses : Graph → List ℕ
name_uses g = flat_map ref_uses g.refs ++ flat_map type_uses g.types

-- the numbers of references
abbrev pub method_targets : StoredMethod → List ℕ
method_targets m = map (λ s. s.reference) m.sites

abbrev pub type_targets : StoredType → List ℕ
type_targets t = flat_map method_targets t.methods

abbrev pub ref_uses_of : Graph → List ℕ
ref_uses_of g = flat_map type_targets g.types

-- each number is below n, and each number below n is used
pub record IsUsed (n : ℕ) (uses : List ℕ) : Type 0 where
  pub below : AllByRecursion (λ k. k < n) uses
  pub each : (k : ℕ) → k < n → Contains uses k

abbrev pub FitsName : List ℕ → Type 0
FitsName name = length name < 2 ^ 16

abbrev pub FitsRef : List ℕ → Type 0
FitsRef row = (length row ≡ 4) × (number_at 1 row ≤ 1)

abbrev pub key : StoredMethod → List ℕ
key m = m.name ∷ m.desc ∷ []

-- (std's sum is a fold from the left: a recursion of its own computes with the list)
abbrev pub site_count : List StoredMethod → ℕ
site_count [] = 0
site_count (m ∷ ms) = length m.sites + site_count ms

pub record FitsType (t : StoredType) : Type 0 where
  pub flags : t.flags < 2 ^ 16
  pub interfaces : length t.interfaces < 2 ^ 16
  pub fields : length t.fields < 2 ^ 16
  pub field_flags : AllByRecursion (λ f. f.flags < 2 ^ 16) t.fields
  pub methods : length t.methods < 2 ^ 16
  pub method_flags : AllByRecursion (λ m. m.flags < 2 ^ 16) t.methods
  pub places : AllByRecursion (λ m. AllByRecursion (λ s. s.pc < 2 ^ 16) m.sites) t.methods
  pub apart : IsDistinct (pointwise nat_eq) (map key t.methods)
  pub few : site_count t.methods ≤ 1000000

pub record IsGraph (g : Graph) : Type 0 where
  pub few_names : length g.names < 2 ^ 32
  pub names : AllByRecursion FitsName g.names
  pub names_rise : Rises g.names
  pub few_refs : length g.refs < 2 ^ 32
  pub refs : AllByRecursion FitsRef g.refs
  pub refs_rise : Rises g.refs
  pub few_types : length g.types < 2 ^ 32
  pub types : AllByRecursion FitsType g.types
  pub names_used : IsUsed (length g.names) (name_uses g)
  pub refs_used : IsUsed (length g.refs) (ref_uses_of g)
