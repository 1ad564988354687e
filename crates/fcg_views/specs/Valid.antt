-- Which views are valid: those that a class file could have.
use Rattle.std.specs.Prelude.{ℕ, ◌+◌, ◌*◌, ◌-◌, ◌≤◌, List, length, sum_by, All, Bool, ◌&&◌, nat_eq, nat_le, Option, Some, None, if◌then◌else◌}
use Rattle.std.specs.List.{IsDistinct}
use Rattle.std.specs.Cmp.Lexicographic.{pointwise}
use Rattle.fcg_views.specs.declared.view.View.{View}
use Rattle.fcg_views.specs.declared.view.Field.{Field}
use Rattle.fcg_views.specs.declared.view.Method.{Method}
use Rattle.fcg_views.specs.declared.view.Site.{Site}

-- a name fits a Utf8 constant (JVMS 4.4.7)
abbrev pub IsShort : List ℕ → Type 0
IsShort name = length name ≤ 65535

-- a list fits a table whose count has two bytes
abbrev pub IsTable : {X : Type 0} → (X → Type 0) → List X → Type 0
IsTable P rows = (length rows ≤ 65535) × All P rows

abbrev pub IsShortOrNone : Option (List ℕ) → Type 0
IsShortOrNone None = Unit {0}
IsShortOrNone (Some name) = IsShort name

abbrev pub HasShortNames : Site → Type 0
HasShortNames s = IsShort s.target.owner × IsShort s.target.name × IsShort s.target.desc

abbrev pub IsValidField : Field → Type 0
IsValidField f = IsShort f.name × IsShort f.desc

abbrev pub IsValidMethod : Method → Type 0
IsValidMethod m = IsShort m.name × IsShort m.desc × All HasShortNames m.sites

-- the sites of all methods
abbrev pub site_count : List Method → ℕ
site_count methods = sum_by (λ m. length m.sites) methods

-- the sites of all views
abbrev pub sites_of_all : List View → ℕ
sites_of_all views = sum_by (λ v. site_count v.methods) views

abbrev pub count_of_option : {X : Type 0} → Option X → ℕ
count_of_option None = 0
count_of_option (Some x) = 1

-- what is left of a number when another is taken from it
abbrev pub left_of : ℕ → ℕ → Option ℕ
left_of room n = if nat_le n room then Some (room - n) else None

-- the names of a method, of its sites among them, each as often as it stands
abbrev pub method_names : Method → ℕ
method_names m = 2 + 3 * length m.sites

abbrev pub own_names : View → ℕ
own_names v = 1 + (count_of_option v.superclass + (length v.interfaces + 2 * length v.fields))

-- all names of a view
abbrev pub view_names : View → ℕ
view_names v = own_names v + sum_by method_names v.methods

-- all names of views, each as often as it stands
abbrev pub name_count : List View → ℕ
name_count views = sum_by view_names views

-- both texts are one
abbrev pub is_same : List ℕ → List ℕ → Bool
is_same x y = pointwise nat_eq x y

-- both methods have one name and one descriptor
abbrev pub is_alike : Method → Method → Bool
is_alike m n = is_same m.name n.name && is_same m.desc n.desc

pub record IsValid (v : View) : Type 0 where
  pub name : IsShort v.name
  pub superclass : IsShortOrNone v.superclass
  pub interfaces : IsTable IsShort v.interfaces
  pub fields : IsTable IsValidField v.fields
  pub methods : IsTable IsValidMethod v.methods
  -- no two methods have one name and descriptor (JVMS 4.6)
  pub distinct : IsDistinct is_alike v.methods
  pub few_sites : site_count v.methods ≤ 1000000
