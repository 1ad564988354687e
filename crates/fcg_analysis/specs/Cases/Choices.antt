-- Sets that tell two readings of a rule apart.
use Prim.Native.String.{String}
use Rattle.std.specs.Prelude.{List, [], ◌∷◌, ◌++◌, None, Some, codes}
use Rattle.fcg_views.specs.declared.view.SiteKind.TheVariants.{Virtual, Interface, Special, Static, StaticField, New, Handle}
use Rattle.fcg_views.specs.declared.view.HandleKind.TheVariants.{K5, K6, K7, K8, K9}
use Rattle.fcg_views.specs.declared.view.Method.{Method}
use Rattle.fcg_views.specs.declared.view.Site.{Site}
use Rattle.fcg_views.specs.declared.view.View.{View}
use Rattle.fcg_analysis.specs.Declarations.{Placed, object_name}
use Rattle.fcg_analysis.specs.Cases.ShortForm.{call, interface_call, method, open_method, abstract_method, static_method, type_with, class_of, class_below, class_with, abstract_class, interface_of, object_of, release, caller, k_calling, m, abstract_m, package_m, private_m, static_m}
use Rattle.fcg_analysis.specs.Cases.Sets.{self_call}

abbrev virtual_m : List Site
virtual_m = call Virtual "p/A" "m" "()V" ∷ []

-- ---- Winners and known types

-- the first view of p/A stands in a circle, and a later one doesn't
abbrev pub circle_before_sound : List Placed
circle_before_sound =
    release "g:a:1" (class_below "p/B" "p/A" [] ∷ class_below "p/A" "p/B" [] ∷ [])
    ++ release "g:b:1" (class_of "p/A" (static_m ∷ []) ∷ caller (call Static "p/A" "m" "()V" ∷ []) ∷ [])

-- the first view of Object is an interface
abbrev pub object_interface : List Placed
object_interface =
    release "g:a:1" (interface_of "java/lang/Object" [] (m ∷ []) ∷ [])
    ++ release "g:b:1" (
    object_of (m ∷ [])
    ∷ class_with "java/lang/Object" ("java/lang/Object" ∷ []) "p/A" []
    ∷ class_of "p/B" []
    ∷ caller (call Virtual "java/lang/Object" "m" "()V" ∷ call Virtual "p/A" "m" "()V" ∷ call Virtual "p/B" "none" "()V" ∷ [])
    ∷ [])

-- one release twice
abbrev pub release_twice : List Placed
release_twice = self_call ++ self_call

-- ---- Gaps and chains

-- one name as the superclass and as an interface: first of a class, then of an interface
abbrev pub named_twice : List Placed
named_twice = release "g:a:1" (
    object_of []
    ∷ class_of "p/N" []
    ∷ interface_of "p/I" [] []
    ∷ class_with "p/N" ("p/N" ∷ []) "p/A" []
    ∷ class_with "p/I" ("p/I" ∷ []) "p/B" []
    ∷ class_with "p/N" ("java/lang/Object" ∷ []) "p/C" []
    ∷ caller (call Static "p/A" "none" "()V" ∷ call Static "p/B" "none" "()V" ∷ call Static "p/C" "none" "()V" ∷ [])
    ∷ [])

-- a superclass that is in no release, Object with a public and a private method, and a default
abbrev pub object_at_the_end : List Placed
object_at_the_end = release "g:a:1" (
    object_of (m ∷ method 0x0002 "n" "()V" [] ∷ [])
    ∷ interface_of "p/I" [] (m ∷ [])
    ∷ class_with "x/Absent" ("p/I" ∷ []) "p/A" []
    ∷ caller (call Virtual "p/A" "m" "()V" ∷ call Virtual "p/A" "n" "()V" ∷ [])
    ∷ [])

-- a class whose superclass names an interface
abbrev pub superclass_interface : List Placed
superclass_interface = release "g:a:1" (
    object_of []
    ∷ interface_of "p/A" [] (abstract_m ∷ [])
    ∷ class_below "p/A" "p/B" (m ∷ [])
    ∷ caller (interface_call Interface "p/A" "m" "()V" ∷ [])
    ∷ [])

-- an interface whose superclass entry names an absent class
abbrev pub interface_superclass : List Placed
interface_superclass = release "g:a:1" (
    object_of []
    ∷ type_with 0x0601 (Some (codes "x/Absent")) "p/I" [] []
    ∷ caller (interface_call Interface "p/I" "none" "()V" ∷ [])
    ∷ [])

-- ---- At or below

-- an InterfaceMethodref to an absent name that a class names as its superclass
abbrev pub absent_superclass : List Placed
absent_superclass = release "g:a:1" (
    class_below "x/N" "p/A" (m ∷ [])
    ∷ caller (interface_call Interface "x/N" "m" "()V" ∷ [])
    ∷ [])

-- a class that names a known class as an interface, and an absent one, both called by Methodrefs
abbrev pub named_as_interface : List Placed
named_as_interface = release "g:a:1" (
    class_of "p/N" (m ∷ [])
    ∷ class_with "java/lang/Object" ("p/N" ∷ "x/Y" ∷ []) "p/A" (m ∷ [])
    ∷ class_of "p/T" (
    static_method "t" "()V" (call Virtual "p/N" "m" "()V" ∷ [])
    ∷ static_method "u" "()V" (call Virtual "x/Y" "m" "()V" ∷ [])
    ∷ [])
    ∷ [])

-- Object names an absent interface
abbrev pub object_names_interface : List Placed
object_names_interface = release "g:a:1" (
    type_with 0x0021 None "java/lang/Object" ("x/Y" ∷ []) (m ∷ [])
    ∷ caller (interface_call Interface "x/Y" "m" "()V" ∷ [])
    ∷ [])

-- a call on Object, which is in no release
abbrev pub object_absent : List Placed
object_absent = release "g:a:1" (
    class_of "p/A" (open_method "toString" "()Ljava/lang/String;" ∷ [])
    ∷ class_of "q/B" (method 0 "toString" "()Ljava/lang/String;" [] ∷ [])
    ∷ class_of "q/C" (method 0x0002 "toString" "()Ljava/lang/String;" [] ∷ [])
    ∷ class_below "x/Y" "q/D" (open_method "toString" "()Ljava/lang/String;" ∷ [])
    ∷ caller (call Virtual "java/lang/Object" "toString" "()Ljava/lang/String;" ∷ [])
    ∷ [])

-- ---- Resolution

-- the first superinterface method is one that a more specific interface has too, and can be overridden from its package alone
abbrev pub first_not_specific : List Placed
first_not_specific = release "g:a:1" (
    interface_of "p/I" [] (package_m ∷ [])
    ∷ interface_of "q/J" ("p/I" ∷ []) (abstract_m ∷ [])
    ∷ abstract_class "q/A" ("q/J" ∷ []) []
    ∷ class_below "q/A" "q/D" (m ∷ [])
    ∷ class_of "q/T" (static_method "t" "()V" (call Virtual "q/A" "m" "()V" ∷ []) ∷ [])
    ∷ [])

-- Object's methods beside an interface's: an abstract one, a static one, one that isn't public
abbrev pub interface_and_object : List Placed
interface_and_object = release "g:a:1" (
    object_of (abstract_m ∷ static_method "s" "()V" [] ∷ method 0x0004 "n" "()V" [] ∷ [])
    ∷ interface_of "p/I" [] (m ∷ open_method "s" "()V" ∷ open_method "n" "()V" ∷ [])
    ∷ interface_of "p/J" ("p/I" ∷ []) []
    ∷ [])

-- a static method between a class and an instance method above it
abbrev pub hidden_by_static : List Placed
hidden_by_static = release "g:a:1" (
    class_of "p/G" (m ∷ [])
    ∷ class_below "p/G" "p/B" (static_m ∷ [])
    ∷ class_below "p/B" "p/A" []
    ∷ caller virtual_m
    ∷ [])

-- a private and a static method of an interface, called by a class that implements it; and the static one by the interface
abbrev pub hidden_in_interface : List Placed
hidden_in_interface = release "g:a:1" (
    object_of []
    ∷ interface_of "p/I" [] (private_m ∷ static_method "s" "()V" [] ∷ [])
    ∷ class_with "java/lang/Object" ("p/I" ∷ []) "p/A" []
    ∷ caller (call Virtual "p/A" "m" "()V" ∷ call Static "p/A" "s" "()V" ∷ interface_call Static "p/I" "s" "()V" ∷ [])
    ∷ [])

-- the methods of an array: New and StaticField sites, special and virtual ones, and an InterfaceMethodref
abbrev pub array_sites : List Placed
array_sites = release "g:a:1" (
    type_with 0x0421 None "java/lang/Object" [] (
    method 0x0001 "<init>" "()V" []
    ∷ method 0x0002 "p" "()V" []
    ∷ method 0x0409 "s" "()V" []
    ∷ m ∷ [])
    ∷ class_of "p/T" (
    static_method "special" "()V" (call Special "[I" "<init>" "()V" ∷ [])
    ∷ static_method "private" "()V" (call Virtual "[I" "p" "()V" ∷ [])
    ∷ static_method "static" "()V" (call Static "[I" "s" "()V" ∷ [])
    ∷ static_method "static2" "()V" (call Static "java/lang/Object" "s" "()V" ∷ [])
    ∷ static_method "none" "()V" (call New "[I" "m" "()V" ∷ call StaticField "[I" "m" "()V" ∷ [])
    ∷ static_method "interface" "()V" (interface_call Interface "[I" "m" "()V" ∷ interface_call Special "[I" "m" "()V" ∷ [])
    ∷ [])
    ∷ [])

-- an abstract method of Object, called on an array
abbrev pub array_abstract : List Placed
array_abstract = release "g:a:1" (
    type_with 0x0421 None "java/lang/Object" [] (abstract_m ∷ [])
    ∷ caller (call Virtual "[I" "m" "()V" ∷ [])
    ∷ [])

-- a class that is named as an array: it receives calls, and no reference names it
abbrev pub array_named : List Placed
array_named = release "g:a:1" (
    class_of "p/A" (abstract_m ∷ [])
    ∷ class_below "p/A" "[I" (m ∷ static_method "s" "()V" [] ∷ [])
    ∷ caller (call Virtual "p/A" "m" "()V" ∷ call Static "[I" "s" "()V" ∷ interface_call Static "[I" "s" "()V" ∷ [])
    ∷ [])

-- ---- Overriding

-- a method between that is static doesn't hand on
abbrev pub static_between : List Placed
static_between = release "g:a:1" (
    class_of "p/A" (package_m ∷ [])
    ∷ class_below "p/A" "p/B" (static_m ∷ [])
    ∷ class_below "p/B" "q/C" (m ∷ [])
    ∷ caller virtual_m
    ∷ [])

-- a package-private method, a protected one of its package, then package-private and public ones of others
abbrev pub handed_on : List Placed
handed_on = release "g:a:1" (
    class_of "p/A" (package_m ∷ [])
    ∷ class_below "p/A" "p/B" (method 0x0004 "m" "()V" [] ∷ [])
    ∷ class_below "p/B" "q/C" (package_m ∷ [])
    ∷ class_below "q/C" "r/E" (m ∷ [])
    ∷ caller virtual_m
    ∷ [])

-- classes without a package
abbrev pub no_package : List Placed
no_package = release "g:a:1" (
    class_of "A" (package_m ∷ [])
    ∷ class_below "A" "B" (package_m ∷ [])
    ∷ class_below "A" "/C" (package_m ∷ [])
    ∷ class_below "A" "p/D" (package_m ∷ [])
    ∷ caller (call Virtual "A" "m" "()V" ∷ [])
    ∷ [])

-- a class that has an interface's method, below it one that implements the interface; and methods that are public and
-- private both
abbrev pub unrelated : List Placed
unrelated = release "g:a:1" (
    interface_of "p/I" [] (abstract_m ∷ [])
    ∷ class_of "p/A" (m ∷ [])
    ∷ class_with "p/A" ("p/I" ∷ []) "p/B" []
    ∷ class_of "p/T" (static_method "t" "()V" (interface_call Interface "p/I" "m" "()V" ∷ []) ∷ method 0x0003 "m" "()V" [] ∷ [])
    ∷ [])

-- a package-private method of an interface, which stands in no chain; a class of its package, and one of another below that
abbrev pub interface_not_between : List Placed
interface_not_between = release "g:a:1" (
    interface_of "p/I" [] (package_m ∷ [])
    ∷ class_of "p/A" (m ∷ [])
    ∷ class_with "p/A" ("p/I" ∷ []) "q/B" (m ∷ [])
    ∷ caller (interface_call Interface "p/I" "m" "()V" ∷ [])
    ∷ [])

-- ---- Selection

-- an abstract class with a concrete method, and below it a private one of its name
abbrev pub past_private : List Placed
past_private = release "g:a:1" (
    abstract_class "p/A" [] (m ∷ [])
    ∷ class_below "p/A" "p/B" (private_m ∷ [])
    ∷ caller virtual_m
    ∷ [])

-- an abstract method in the chain, beside a default
abbrev pub abstract_before_default : List Placed
abstract_before_default = release "g:a:1" (
    interface_of "p/I" [] (m ∷ [])
    ∷ abstract_class "p/A" ("p/I" ∷ []) (abstract_m ∷ [])
    ∷ class_below "p/A" "p/B" []
    ∷ caller virtual_m
    ∷ [])

-- a package-private default of another package
abbrev pub package_private_default : List Placed
package_private_default = release "g:a:1" (
    interface_of "q/I" [] (package_m ∷ [])
    ∷ class_with "java/lang/Object" ("q/I" ∷ []) "p/A" []
    ∷ class_below "p/A" "p/B" (m ∷ [])
    ∷ caller virtual_m
    ∷ [])

-- a private method of an abstract class that calls it, without and with a class below
abbrev pub private_without_receiver : List Placed
private_without_receiver = release "g:a:1" (
    abstract_class "p/A" [] (private_m ∷ static_method "t" "()V" virtual_m ∷ []) ∷ [])

abbrev pub private_with_receiver : List Placed
private_with_receiver = private_without_receiver ++ release "g:b:1" (class_below "p/A" "p/B" (m ∷ []) ∷ [])

-- a default of an interface that no class implements
abbrev pub interface_alone : List Placed
interface_alone = release "g:a:1" (
    interface_of "p/I" [] (m ∷ []) ∷ caller (interface_call Interface "p/I" "m" "()V" ∷ []) ∷ [])

-- an interface that isn't marked as abstract, and that no class implements
abbrev pub interface_not_abstract : List Placed
interface_not_abstract = release "g:a:1" (
    type_with 0x0201 (Some object_name) "p/I" [] (m ∷ []) ∷ caller (interface_call Interface "p/I" "m" "()V" ∷ []) ∷ [])

-- a static method of a class, beside a default
abbrev pub static_beside_default : List Placed
static_beside_default = release "g:a:1" (
    interface_of "p/I" [] (m ∷ [])
    ∷ class_with "java/lang/Object" ("p/I" ∷ []) "p/A" (static_m ∷ [])
    ∷ caller virtual_m
    ∷ [])

-- an `<init>` by a virtual call
abbrev pub virtual_init : List Placed
virtual_init = release "g:a:1" (
    class_of "p/A" (open_method "<init>" "()V" ∷ [])
    ∷ class_below "p/A" "p/B" (open_method "<init>" "()V" ∷ [])
    ∷ caller (call Virtual "p/A" "<init>" "()V" ∷ [])
    ∷ [])

-- ---- Special calls

-- Object's view names a superclass, which a class below Object calls
abbrev pub object_below_absent : List Placed
object_below_absent =
    release "g:a:1" (class_below "x/Y" "java/lang/Object" (m ∷ []) ∷ [])
    ++ release "g:b:1" (class_of "p/C" (k_calling (call Special "x/Y" "m" "()V")) ∷ [])

-- Object's method is called: from below an absent class, and from below Object
abbrev object_and_b : String → List View
object_and_b superclass =
    object_of (m ∷ [])
    ∷ class_below superclass "p/B" (m ∷ [])
    ∷ class_below "p/B" "p/C" (k_calling (call Special "java/lang/Object" "m" "()V"))
    ∷ []

abbrev pub special_past_absent : List Placed
special_past_absent = release "g:a:1" (object_and_b "x/Absent")

abbrev pub special_of_object : List Placed
special_of_object = release "g:a:1" (object_and_b "java/lang/Object")

-- an absent superclass of the linked superclass, and of the class itself
abbrev pub special_absent_superclass : List Placed
special_absent_superclass = release "g:a:1" (
    class_below "x/N" "p/P" (m ∷ [])
    ∷ class_below "p/P" "p/C" (k_calling (call Special "x/N" "m" "()V"))
    ∷ class_below "x/N" "p/D" (m ∷ k_calling (call Special "x/N" "m" "()V"))
    ∷ [])

-- an abstract method ends the search, a static one doesn't
abbrev pub special_abstract : List Placed
special_abstract = release "g:a:1" (
    class_of "p/G" (m ∷ [])
    ∷ class_below "p/G" "p/P" (abstract_m ∷ [])
    ∷ class_below "p/P" "p/C" (k_calling (call Special "p/G" "m" "()V"))
    ∷ [])

abbrev pub special_static : List Placed
special_static = release "g:a:1" (
    class_of "p/G" (m ∷ [])
    ∷ class_below "p/G" "p/P" (static_m ∷ [])
    ∷ class_below "p/P" "p/C" (k_calling (call Special "p/G" "m" "()V"))
    ∷ [])

-- a private method is taken as any other
abbrev pub special_private : List Placed
special_private = release "g:a:1" (
    class_of "p/G" (m ∷ [])
    ∷ class_below "p/G" "p/P" (private_m ∷ [])
    ∷ class_below "p/P" "p/C" (k_calling (call Special "p/G" "m" "()V"))
    ∷ [])

-- the method that is resolved is static
abbrev pub special_of_static : List Placed
special_of_static = release "g:a:1" (
    class_of "p/G" (m ∷ [])
    ∷ class_below "p/G" "p/P" (static_m ∷ [])
    ∷ class_below "p/P" "p/C" (k_calling (call Special "p/P" "m" "()V"))
    ∷ [])

-- an `<init>` that the named class only inherits
abbrev pub inherited_init : List Placed
inherited_init = release "g:a:1" (
    class_of "p/P" (open_method "<init>" "()V" ∷ [])
    ∷ class_below "p/P" "p/Q" []
    ∷ caller (call Special "p/Q" "<init>" "()V" ∷ [])
    ∷ [])

-- a default that a class calls by its interface, though the superclass has a method of the name
abbrev pub special_interface : List Placed
special_interface = release "g:a:1" (
    interface_of "p/I" [] (m ∷ [])
    ∷ class_of "p/P" (m ∷ [])
    ∷ class_with "p/P" ("p/I" ∷ []) "p/C" (k_calling (interface_call Special "p/I" "m" "()V"))
    ∷ [])

-- a method of Object by an interface with a gap: a public one, and a protected one
abbrev object_by_interface : Method → List Placed
object_by_interface method = release "g:a:1" (
    object_of (method ∷ [])
    ∷ interface_of "p/I" ("x/J" ∷ []) []
    ∷ class_with "java/lang/Object" ("p/I" ∷ []) "p/C" (k_calling (interface_call Special "p/I" "m" "()V"))
    ∷ [])

abbrev pub special_public_object : List Placed
special_public_object = object_by_interface m

abbrev pub special_protected_object : List Placed
special_protected_object = object_by_interface (method 0x0004 "m" "()V" [])

-- ---- Sites

-- one site of each handle's kind
abbrev pub handle_kinds : List Placed
handle_kinds = release "g:a:1" (
    interface_of "p/I" [] (abstract_method "i" "()V" ∷ [])
    ∷ class_with "java/lang/Object" ("p/I" ∷ []) "p/A" (
    open_method "<init>" "()V"
    ∷ open_method "v" "()V"
    ∷ open_method "w" "()V"
    ∷ open_method "i" "()V"
    ∷ static_method "s" "()V" []
    ∷ [])
    ∷ caller (
    call (Handle K5) "p/A" "v" "()V"
    ∷ call (Handle K6) "p/A" "s" "()V"
    ∷ call (Handle K7) "p/A" "w" "()V"
    ∷ call (Handle K8) "p/A" "<init>" "()V"
    ∷ interface_call (Handle K9) "p/I" "i" "()V"
    ∷ [])
    ∷ [])

-- handles of methods that a class below has too
abbrev pub handle_receivers : List Placed
handle_receivers = release "g:a:1" (
    class_of "p/A" (open_method "<init>" "()V" ∷ open_method "v" "()V" ∷ open_method "w" "()V" ∷ [])
    ∷ class_below "p/A" "p/B" (open_method "<init>" "()V" ∷ open_method "v" "()V" ∷ open_method "w" "()V" ∷ [])
    ∷ caller (
    call (Handle K5) "p/A" "v" "()V"
    ∷ call (Handle K7) "p/A" "w" "()V"
    ∷ call (Handle K8) "p/A" "<init>" "()V"
    ∷ [])
    ∷ [])

-- one reference at two sites, and a reference of the wrong kind
abbrev pub failures : List Placed
failures = release "g:a:1" (
    object_of []
    ∷ caller (call Static "p/T" "none" "()V" ∷ call Static "p/T" "none" "()V" ∷ interface_call Interface "p/T" "t" "()V" ∷ [])
    ∷ [])
