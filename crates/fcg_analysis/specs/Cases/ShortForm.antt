-- Views in the short form in which the worked cases are written: names as texts, and of a set what its releases have.
use Prim.Native.String.{String}
use Rattle.std.specs.Prelude.{◌&&◌, ◌==◌, ℕ, List, [], ◌∷◌, Bool, true, false, Option, Some, None, map, filter, codes, option_map}
use Rattle.std.specs.List.{list_any}
use Rattle.fcg_views.specs.declared.view.View.{View}
use Rattle.fcg_views.specs.declared.view.Method.{Method}
use Rattle.fcg_views.specs.declared.view.Site.{Site}
use Rattle.fcg_views.specs.declared.view.Ref.{Ref}
use Rattle.fcg_views.specs.declared.view.SiteKind.{SiteKind}
use Rattle.fcg_views.specs.declared.view.SiteKind.TheVariants.{New}
use Rattle.fcg_analysis.specs.Declarations.{Placed, object_name}
use Rattle.fcg_analysis.specs.Types.{chain, is_below}
use Rattle.fcg_analysis.specs.Nodes.{nodes}
use Rattle.fcg_analysis.specs.Selection.{can_override}
use Rattle.fcg_analysis.specs.Resolution.{Outcome, Found, Phantom, Failed}

-- ---- References and sites. All sites of a method stand at place 0: no rule looks at it.

abbrev pub ref_to : Bool → String → String → String → Ref
ref_to interface owner name desc =
    record { owner = codes owner; owner_is_interface_ref = interface; name = codes name; desc = codes desc }

-- a Methodref
abbrev pub method_ref : String → String → String → Ref
method_ref owner name desc = ref_to false owner name desc

-- an InterfaceMethodref
abbrev pub interface_ref : String → String → String → Ref
interface_ref owner name desc = ref_to true owner name desc

abbrev pub site : SiteKind → Ref → Site
site kind target = record { pc = 0; kind = kind; target = target }

-- of a Methodref
abbrev pub call : SiteKind → String → String → String → Site
call kind owner name desc = site kind (method_ref owner name desc)

-- of an InterfaceMethodref
abbrev pub interface_call : SiteKind → String → String → String → Site
interface_call kind owner name desc = site kind (interface_ref owner name desc)

-- a `new` of a type
abbrev pub made : String → Site
made owner = site New (method_ref owner "" "")

-- ---- Methods, by their flags

abbrev pub method : ℕ → String → String → List Site → Method
method flags name desc sites = record { name = codes name; desc = codes desc; flags = flags; sites = sites }

-- public
abbrev pub open_method : String → String → Method
open_method name desc = method 0x0001 name desc []

-- public and abstract
abbrev pub abstract_method : String → String → Method
abstract_method name desc = method 0x0401 name desc []

-- public and static
abbrev pub static_method : String → String → List Site → Method
static_method name desc sites = method 0x0009 name desc sites

-- ---- Types

abbrev pub type_with : ℕ → Option (List ℕ) → String → List String → List Method → View
type_with flags superclass name interfaces methods =
    record { name = codes name; flags = flags; superclass = superclass; interfaces = map (λ n. codes n) interfaces; fields = []; methods = methods }

-- a class below Object
abbrev pub class_of : String → List Method → View
class_of name methods = type_with 0x0021 (Some object_name) name [] methods

-- a class below another
abbrev pub class_below : String → String → List Method → View
class_below superclass name methods = type_with 0x0021 (Some (codes superclass)) name [] methods

-- a class below another, with interfaces
abbrev pub class_with : String → List String → String → List Method → View
class_with superclass interfaces name methods = type_with 0x0021 (Some (codes superclass)) name interfaces methods

-- an abstract class below Object
abbrev pub abstract_class : String → List String → List Method → View
abstract_class name interfaces methods = type_with 0x0421 (Some object_name) name interfaces methods

-- an interface with interfaces above it
abbrev pub interface_of : String → List String → List Method → View
interface_of name interfaces methods = type_with 0x0601 (Some object_name) name interfaces methods

-- java/lang/Object
abbrev pub object_of : List Method → View
object_of methods = type_with 0x0021 None "java/lang/Object" [] methods

-- the views of a release
abbrev pub release : String → List View → List Placed
release coordinate views = map (λ v. record { coordinate = codes coordinate; view = v }) views

-- ---- What many sets have

abbrev pub m : Method
m = open_method "m" "()V"

abbrev pub abstract_m : Method
abstract_m = abstract_method "m" "()V"

abbrev pub package_m : Method
package_m = method 0 "m" "()V" []

abbrev pub private_m : Method
private_m = method 0x0002 "m" "()V" []

abbrev pub static_m : Method
static_m = static_method "m" "()V" []

-- p/T with one method that has these sites
abbrev pub caller : List Site → View
caller sites = class_of "p/T" (static_method "t" "()V" sites ∷ [])

-- the method k, which makes a special call
abbrev pub k_calling : Site → List Method
k_calling site = method 0x0001 "k" "()V" (site ∷ []) ∷ []

-- ---- What the cases ask

abbrev pub name_of : Placed → List ℕ
name_of t = t.view.name

abbrev pub names_of_types : List Placed → List (List ℕ)
names_of_types types = map name_of types

abbrev pub names : List String → List (List ℕ)
names texts = map (λ n. codes n) texts

abbrev pub chain_names : List Placed → Option Placed → Option (List (List ℕ))
chain_names types t = option_map (λ u. names_of_types (chain types u)) t

abbrev pub names_below : List Placed → String → List (List ℕ)
names_below types n = names_of_types (filter (λ d. is_below types d (codes n)) types)

-- the number of the method that is found
abbrev pub number_in : Outcome → Option ℕ
number_in (Found m) = Some m.number
number_in Phantom = None
number_in (Failed cause) = None

-- whether the node of one number can override that of another
abbrev pub overrides : List Placed → ℕ → ℕ → Bool
overrides types c a =
    list_any (λ m. m.number == c && list_any (λ n. n.number == a && can_override types m n) (nodes types)) (nodes types)
