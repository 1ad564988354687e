-- The views that a stored graph stands for, and the stored graph of a list of views.
use Rattle.std.specs.Prelude.{ℕ, ◌==◌, List, [], ◌∷◌, ◌++◌, map, Option, Some, None, slice_index_or, if◌then◌else◌}
use Rattle.std.specs.List.{flat_map}
use Rattle.fcg_views.specs.declared.view.View.{View}
use Rattle.fcg_views.specs.declared.view.Method.{Method}
use Rattle.fcg_views.specs.declared.view.Field.{Field}
use Rattle.fcg_views.specs.declared.view.Site.{Site}
use Rattle.fcg_views.specs.declared.view.Ref.{Ref}
use Rattle.fcg_views.specs.NamesIn.{names_of_ref, names_of_super, names_of_field}
use Rattle.fcg_grammar.specs.Table.{table, place}
use Rattle.fcg_partial.specs.Graph.{number_at, spelling, Graph, StoredType, StoredField, StoredMethod, StoredSite}

-- ---- from numbers to names
abbrev pub name_in : List (List ℕ) → ℕ → List ℕ
name_in names n = slice_index_or names n []

-- the reference of four numbers
abbrev pub shown_ref : List (List ℕ) → List ℕ → Ref
shown_ref names row = record {
  owner = name_in names (number_at 0 row);
  owner_is_interface_ref = number_at 1 row == 1;
  name = name_in names (number_at 2 row);
  desc = name_in names (number_at 3 row);
}

abbrev pub super_in : List (List ℕ) → Option ℕ → Option (List ℕ)
super_in names None = None
super_in names (Some n) = Some (name_in names n)

abbrev pub shown_site : Graph → StoredSite → Site
shown_site g s = record { pc = s.pc; kind = s.kind; target = shown_ref g.names (slice_index_or g.refs s.reference []) }

abbrev pub shown_field : Graph → StoredField → Field
shown_field g f = record { name = name_in g.names f.name; desc = name_in g.names f.desc; flags = f.flags }

abbrev pub shown_method : Graph → StoredMethod → Method
shown_method g m = record { name = name_in g.names m.name; desc = name_in g.names m.desc; flags = m.flags; sites = map (shown_site g) m.sites }

abbrev pub shown_type : Graph → StoredType → View
shown_type g t = record {
  name = name_in g.names t.name;
  flags = t.flags;
  superclass = super_in g.names t.superclass;
  interfaces = map (name_in g.names) t.interfaces;
  fields = map (shown_field g) t.fields;
  methods = map (shown_method g) t.methods;
}

-- the views that it stands for
unfoldable pub shown : Graph → List View
shown g = map (shown_type g) g.types

-- ---- from names to numbers
-- the references and the names of a view
abbrev pub targets_of_method : Method → List Ref
targets_of_method m = map (λ s. s.target) m.sites

abbrev pub names_of_method : Method → List (List ℕ)
names_of_method m = m.name ∷ m.desc ∷ []

abbrev pub names_of_view : View → List (List ℕ)
names_of_view v = v.name ∷ (names_of_super v.superclass ++ (v.interfaces ++ (flat_map names_of_field v.fields ++ flat_map names_of_method v.methods)))

abbrev pub targets_of_view : View → List Ref
targets_of_view v = flat_map targets_of_method v.methods

abbrev pub targets_of : List View → List Ref
targets_of views = flat_map targets_of_view views

-- all names: those of the references, and those of the types
abbrev pub mentions : List View → List (List ℕ)
mentions views = flat_map names_of_ref (targets_of views) ++ flat_map names_of_view views

-- the table of names, and that of references
unfoldable pub names_of : List View → List (List ℕ)
names_of views = table (mentions views)

abbrev pub ref_row : List (List ℕ) → Ref → List ℕ
ref_row names r = place names r.owner ∷ (if r.owner_is_interface_ref then 1 else 0) ∷ place names r.name ∷ place names r.desc ∷ []

unfoldable pub refs_of : List (List ℕ) → List View → List (List ℕ)
refs_of names views = table (map (ref_row names) (targets_of views))

abbrev pub super_number_of : List (List ℕ) → Option (List ℕ) → Option ℕ
super_number_of names None = None
super_number_of names (Some name) = Some (place names name)

abbrev pub site_row : List (List ℕ) → List (List ℕ) → Site → StoredSite
site_row names refs s = record { pc = s.pc; kind = s.kind; reference = place refs (ref_row names s.target) }

abbrev pub field_row : List (List ℕ) → Field → StoredField
field_row names f = record { name = place names f.name; desc = place names f.desc; flags = f.flags }

abbrev pub method_row : List (List ℕ) → List (List ℕ) → Method → StoredMethod
method_row names refs m = record { name = place names m.name; desc = place names m.desc; flags = m.flags; sites = map (site_row names refs) m.sites }

abbrev pub type_row : List (List ℕ) → List (List ℕ) → View → StoredType
type_row names refs v = record {
  name = place names v.name;
  flags = v.flags;
  superclass = super_number_of names v.superclass;
  interfaces = map (place names) v.interfaces;
  fields = map (field_row names) v.fields;
  methods = map (method_row names refs) v.methods;
}

abbrev pub graph_by : List (List ℕ) → List (List ℕ) → List View → Graph
graph_by names refs views = record { names = names; refs = refs; types = map (type_row names refs) views }

-- the stored graph of a list of views
unfoldable pub graph_of : List View → Graph
graph_of views = graph_by (names_of views) (refs_of (names_of views) views) views

-- the spelling of a list of views
unfoldable pub text_of : List View → List ℕ
text_of views = spelling (graph_of views)
