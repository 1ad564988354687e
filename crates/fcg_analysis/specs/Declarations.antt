-- What views, methods and references say of themselves (JVMS 4.1, 4.4.2 and 4.6; docs/analysis.md, Words and Types).
use Rattle.std.specs.Prelude.{ℕ, List, [], ◌∷◌, ◌++◌, Bool, false, not, ◌&&◌, ◌||◌, ◌==◌, codes, if◌then◌else◌, option_to_list}
use Rattle.fcg_views.specs.declared.view.View.{View}
use Rattle.fcg_views.specs.declared.view.Method.{Method}
use Rattle.fcg_views.specs.declared.view.Ref.{Ref}
use Rattle.fcg_analysis.specs.NamesAndFlags.{same, has}

-- a view, with the coordinate of the release of the set that has it
pub record Placed : Type 0 where
  pub coordinate : List ℕ
  pub view : View

abbrev pub object_name : List ℕ
object_name = codes "java/lang/Object"

abbrev pub is_named : List ℕ → Placed → Bool
is_named n t = same n t.view.name

-- types of one name are one type
abbrev pub is_type : Placed → Placed → Bool
is_type t u = is_named t.view.name u

abbrev pub is_interface : Placed → Bool
is_interface t = has 0x0200 t.view.flags

abbrev pub is_class : Placed → Bool
is_class t = not (is_interface t)

abbrev pub is_abstract_type : Placed → Bool
is_abstract_type t = has 0x0400 t.view.flags

abbrev pub is_object : Placed → Bool
is_object t = is_named object_name t

-- The names that a type uses: those of Object aren't used, nor is the superclass name of an interface.

abbrev pub superclass_names : Placed → List (List ℕ)
superclass_names t = if is_object t || is_interface t then [] else option_to_list t.view.superclass

abbrev pub interface_names : Placed → List (List ℕ)
interface_names t = if is_object t then [] else t.view.interfaces

abbrev pub names_of : Placed → List (List ℕ)
names_of t = interface_names t ++ superclass_names t

-- ---- Methods

abbrev pub is_public : Method → Bool
is_public m = has 0x0001 m.flags

abbrev pub is_private : Method → Bool
is_private m = has 0x0002 m.flags

abbrev pub is_protected : Method → Bool
is_protected m = has 0x0004 m.flags

abbrev pub is_package_private : Method → Bool
is_package_private m = not (is_public m || is_private m || is_protected m)

abbrev pub is_static : Method → Bool
is_static m = has 0x0008 m.flags

abbrev pub is_instance : Method → Bool
is_instance m = not (is_static m)

abbrev pub is_abstract : Method → Bool
is_abstract m = has 0x0400 m.flags

-- a name and a descriptor, as references and methods have them
pub record Signature : Type 0 where
  pub name : List ℕ
  pub desc : List ℕ

abbrev pub signature_of : Method → Signature
signature_of m = record { name = m.name; desc = m.desc }

abbrev pub signature_in : Ref → Signature
signature_in r = record { name = r.name; desc = r.desc }

abbrev pub has_signature : Signature → Method → Bool
has_signature s m = same s.name m.name && same s.desc m.desc

-- ---- References

abbrev pub begins_with_bracket : List ℕ → Bool
begins_with_bracket [] = false
begins_with_bracket (b ∷ bs) = b == 91

-- the class of an array has a name that begins with `[`
abbrev pub has_array_owner : Ref → Bool
has_array_owner r = begins_with_bracket r.owner
