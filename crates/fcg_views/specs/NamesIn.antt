-- The names that stand in a view, and names by the numbers of their texts.
use Rattle.std.specs.Prelude.{◌≡◌, ◌+◌, ◌≤◌, ◌<◌, ℕ, List, [], ◌∷◌, ◌++◌, map, length, All, Option, Some, None, slice_index_or}
use Rattle.std.specs.List.{flat_map}
use Rattle.fcg_views.specs.declared.view.View.{View}
use Rattle.fcg_views.specs.declared.view.Field.{Field}
use Rattle.fcg_views.specs.declared.view.Method.{Method}
use Rattle.fcg_views.specs.declared.view.Site.{Site}
use Rattle.fcg_views.specs.declared.view.Ref.{Ref}

-- ---- the names of a view, each as often as it stands, in the order in which a view has them
abbrev pub names_of_ref : Ref → List (List ℕ)
names_of_ref r = r.owner ∷ r.name ∷ r.desc ∷ []

abbrev pub names_of_site : Site → List (List ℕ)
names_of_site s = names_of_ref s.target

abbrev pub names_of_super : Option (List ℕ) → List (List ℕ)
names_of_super None = []
names_of_super (Some name) = name ∷ []

abbrev pub names_of_field : Field → List (List ℕ)
names_of_field f = f.name ∷ f.desc ∷ []

abbrev pub names_of_method : Method → List (List ℕ)
names_of_method m = m.name ∷ m.desc ∷ flat_map names_of_site m.sites

abbrev pub names_in : View → List (List ℕ)
names_in v = v.name ∷ (names_of_super v.superclass ++ (v.interfaces ++ (flat_map names_of_field v.fields ++ flat_map names_of_method v.methods)))

-- ---- names by numbers
-- texts that stand in a block, and for each name the number of its text
pub record TextNumbers : Type 0 where
  pub block : List ℕ
  pub texts : List (List ℕ)
  pub numbers : List ℕ

abbrev pub text_in : List (List ℕ) → ℕ → List ℕ
text_in texts n = slice_index_or texts n []

-- the names of the numbers
abbrev pub names_by : TextNumbers → List (List ℕ)
names_by l = map (text_in l.texts) l.numbers

-- the names of a view are these
abbrev pub HasNames : View → TextNumbers → Type 0
HasNames v l = names_in v ≡ names_by l
