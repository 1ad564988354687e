-- What is collected from the views, and what is written of them with the numbers of two tables, view by view.
use Rattle.std.specs.Prelude.{◌≡◌, ℕ, List, ◌++◌, ◌∷◌, [], ◌<◌, ◌^◌, length, All, map}
use Rattle.std.specs.List.{flat_map}
use Rattle.fcg_grammar.specs.Spell.{u2, u4}
use Rattle.fcg_views.specs.declared.view.View.{View}
use Rattle.fcg_views.specs.declared.view.Method.{Method}
use Rattle.fcg_views.specs.declared.view.Field.{Field}
use Rattle.fcg_views.specs.declared.view.Site.{Site}
use Rattle.fcg_partial.specs.Graph.{kind_number, name_text, ref_text, super_number}
use Rattle.fcg_views.specs.NamesIn.{names_of_super, names_of_field, names_of_method, names_in}
use Rattle.fcg_partial.specs.Views.{ref_row, super_number_of}
use Rattle.fcg_grammar.specs.Table.{place, Rises}

-- ---- the names, each as often as it stands, in the order in which the types are written
abbrev pub collected : List View → List (List ℕ)
collected views = flat_map names_in views

-- the names of a view, with these for those of its methods
abbrev pub names_with : View → List (List ℕ) → List (List ℕ)
names_with v methods = v.name ∷ (names_of_super v.superclass ++ (v.interfaces ++ (flat_map names_of_field v.fields ++ methods)))

-- the names of a view up to those of its interfaces, and the others
abbrev pub names_of_head : View → List (List ℕ)
names_of_head v = v.name ∷ (names_of_super v.superclass ++ v.interfaces)

abbrev pub names_of_members : View → List (List ℕ)
names_of_members v = flat_map names_of_field v.fields ++ flat_map names_of_method v.methods

-- the numbers that names have in a table
abbrev pub numbers_of : List (List ℕ) → List (List ℕ) → List ℕ
numbers_of table names = map (place table) names

-- Of numbers that begin with those of these names in a table, whichever table and whatever follows, these are taken, and
-- this holds for the table.
abbrev pub Takes : List (List ℕ) → List ℕ → List ℕ → (List (List ℕ) → Type 0) → Type 0
Takes names old new Holds = (table : List (List ℕ)) (more : List ℕ) → old ≡ numbers_of table names ++ more → Holds table × (new ≡ more)

-- ---- the rows of the references that sites name
abbrev pub site_rows : List (List ℕ) → Site → List (List ℕ)
site_rows names s = ref_row names s.target ∷ []

abbrev pub method_rows : List (List ℕ) → Method → List (List ℕ)
method_rows names m = flat_map (site_rows names) m.sites

abbrev pub view_rows : List (List ℕ) → View → List (List ℕ)
view_rows names v = flat_map (method_rows names) v.methods

-- ---- the texts
abbrev pub written_site : List (List ℕ) → List (List ℕ) → Site → List ℕ
written_site names refs s = u2 s.pc ++ (kind_number s.kind ∷ u4 (place refs (ref_row names s.target)))

abbrev pub written_field : List (List ℕ) → Field → List ℕ
written_field names f = u4 (place names f.name) ++ (u4 (place names f.desc) ++ u2 f.flags)

unfoldable pub written_method : List (List ℕ) → List (List ℕ) → Method → List ℕ
written_method names refs m = u4 (place names m.name) ++ (u4 (place names m.desc) ++ (u2 m.flags ++ (u4 (length m.sites) ++ flat_map (written_site names refs) m.sites)))

abbrev pub written_name : List (List ℕ) → List ℕ → List ℕ
written_name names name = u4 (place names name)

unfoldable pub written_head : List (List ℕ) → View → List ℕ
written_head names v = u4 (place names v.name) ++ (u2 v.flags ++ (u4 (super_number (super_number_of names v.superclass)) ++ (u2 (length v.interfaces) ++ flat_map (written_name names) v.interfaces)))

unfoldable pub written_members : List (List ℕ) → List (List ℕ) → View → List ℕ
written_members names refs v = u2 (length v.fields) ++ (flat_map (written_field names) v.fields ++ (u2 (length v.methods) ++ flat_map (written_method names refs) v.methods))

unfoldable pub written_type : List (List ℕ) → List (List ℕ) → View → List ℕ
written_type names refs v = written_head names v ++ written_members names refs v

unfoldable pub written_tables : List (List ℕ) → List (List ℕ) → List ℕ
written_tables names refs = u4 0x46434752 ++ (u2 1 ++ (u4 (length names) ++ (flat_map name_text names ++ (u4 (length refs) ++ flat_map ref_text refs))))

unfoldable pub written : List (List ℕ) → List (List ℕ) → List View → List ℕ
written names refs views = written_tables names refs ++ (u4 (length views) ++ flat_map (written_type names refs) views)

-- ---- what is asked of them, so that each number has room
pub record AreTables (names refs : List (List ℕ)) : Type 0 where
  pub names_rise : Rises names
  pub few_names : length names < 2 ^ 32
  pub refs_rise : Rises refs
  pub few_refs : length refs < 2 ^ 32

abbrev pub HasFewSites : Method → Type 0
HasFewSites m = length m.sites < 2 ^ 32

pub record HasCounts (v : View) : Type 0 where
  pub interfaces : length v.interfaces < 2 ^ 16
  pub fields : length v.fields < 2 ^ 16
  pub methods : length v.methods < 2 ^ 16
  pub sites : All HasFewSites v.methods
