-- Sets that tell a rule from the same rule with one of its conditions left out.
use Rattle.std.specs.Prelude.{List, [], ◌∷◌, Some, codes}
use Rattle.fcg_views.specs.declared.view.SiteKind.TheVariants.{Virtual, Interface, Special, Static}
use Rattle.fcg_views.specs.declared.view.View.{View}
use Rattle.fcg_analysis.specs.Declarations.{Placed}
use Rattle.fcg_analysis.specs.Cases.ShortForm.{call, interface_call, method, open_method, abstract_method, static_method, type_with, class_of, class_below, class_with, abstract_class, interface_of, object_of, release, caller, k_calling, m, abstract_m, package_m, private_m, static_m}

-- ---- Names and descriptors

-- two methods of one name
abbrev pub overloads : List Placed
overloads = release "g:a:1" (
    class_of "p/A" (open_method "m" "()V" ∷ open_method "m" "(I)V" ∷ [])
    ∷ class_below "p/A" "p/B" (open_method "m" "(I)V" ∷ [])
    ∷ caller (call Virtual "p/A" "m" "(I)V" ∷ [])
    ∷ [])

-- a package-private method, and one of another package whose name begins alike
abbrev pub inner_packages : List Placed
inner_packages = release "g:a:1" (
    class_of "p/q/A" (package_m ∷ [])
    ∷ class_below "p/q/A" "p/r/B" (m ∷ [])
    ∷ caller (call Virtual "p/q/A" "m" "()V" ∷ [])
    ∷ [])

-- ---- Gaps, and at or below

-- a class whose superclass has an absent superclass, with Object present
abbrev pub gap_above : List Placed
gap_above = release "g:a:1" (
    object_of []
    ∷ class_below "x/Absent" "p/B" []
    ∷ class_below "p/B" "p/A" []
    ∷ caller (call Virtual "p/A" "none" "()V" ∷ [])
    ∷ [])

-- a class that has an interface with an absent interface above it, with Object present
abbrev pub gap_of_interface_above : List Placed
gap_of_interface_above = release "g:a:1" (
    object_of []
    ∷ interface_of "p/J" ("x/I" ∷ []) []
    ∷ class_with "java/lang/Object" ("p/J" ∷ []) "p/A" []
    ∷ caller (call Virtual "p/A" "none" "()V" ∷ [])
    ∷ [])

-- absent names that types above the receivers name: a superclass, and an interface of an interface
abbrev pub named_above : List Placed
named_above = release "g:a:1" (
    class_below "x/Y" "p/A" []
    ∷ class_below "p/A" "p/B" (m ∷ [])
    ∷ interface_of "p/J" ("x/I" ∷ []) []
    ∷ class_with "java/lang/Object" ("p/J" ∷ []) "p/C" (m ∷ [])
    ∷ class_of "p/T" (
    static_method "t" "()V" (call Virtual "x/Y" "m" "()V" ∷ [])
    ∷ static_method "u" "()V" (interface_call Interface "x/I" "m" "()V" ∷ [])
    ∷ [])
    ∷ [])

-- a class that is called by its own name, with a class beside it below the one that declares the method
abbrev pub class_beside_receiver : List Placed
class_beside_receiver = release "g:a:1" (
    class_of "p/A" (m ∷ [])
    ∷ class_below "p/A" "p/B" []
    ∷ class_below "p/A" "p/C" (m ∷ [])
    ∷ caller (call Virtual "p/B" "m" "()V" ∷ [])
    ∷ [])

-- a class with a gap in which nothing is found, and one below it that has the method
abbrev pub phantom_of_known : List Placed
phantom_of_known = release "g:a:1" (
    class_below "x/Y" "p/A" []
    ∷ class_below "p/A" "p/B" (m ∷ [])
    ∷ caller (call Virtual "p/A" "m" "()V" ∷ [])
    ∷ [])

-- ---- Resolution

-- a static method of a class, which Object has as an instance method
abbrev pub own_before_object : List Placed
own_before_object = release "g:a:1" (
    object_of (m ∷ [])
    ∷ class_of "p/A" (static_m ∷ [])
    ∷ caller (call Static "p/A" "m" "()V" ∷ [])
    ∷ [])

-- ---- Superinterface methods

-- a default of an interface, with another interface below that, of which the class isn't
abbrev pub interface_below_beside : List Placed
interface_below_beside = release "g:a:1" (
    interface_of "p/I" [] (m ∷ [])
    ∷ interface_of "p/J" ("p/I" ∷ []) (m ∷ [])
    ∷ class_with "java/lang/Object" ("p/I" ∷ []) "p/A" []
    ∷ caller (call Virtual "p/A" "m" "()V" ∷ [])
    ∷ [])

-- an interface of the superclass
abbrev pub interface_of_superclass : List Placed
interface_of_superclass = release "g:a:1" (
    interface_of "p/I" [] (m ∷ [])
    ∷ class_with "java/lang/Object" ("p/I" ∷ []) "p/A" []
    ∷ class_below "p/A" "p/B" []
    ∷ caller (call Virtual "p/B" "m" "()V" ∷ [])
    ∷ [])

-- m of two interfaces, the second a default, and n of both, abstract; of a class and of an interface below them
abbrev pub found_in_interfaces : List Placed
found_in_interfaces = release "g:a:1" (
    object_of []
    ∷ interface_of "p/I" [] (abstract_m ∷ abstract_method "n" "()V" ∷ [])
    ∷ interface_of "p/J" [] (m ∷ abstract_method "n" "()V" ∷ [])
    ∷ interface_of "p/L" ("p/I" ∷ "p/J" ∷ []) []
    ∷ abstract_class "p/A" ("p/I" ∷ "p/J" ∷ []) []
    ∷ [])

-- ---- Overriding and selection

-- a default that is called by its interface, and one of an interface below that
abbrev pub default_of_interface_below : List Placed
default_of_interface_below = release "g:a:1" (
    interface_of "p/I" [] (m ∷ [])
    ∷ interface_of "p/J" ("p/I" ∷ []) (m ∷ [])
    ∷ class_with "java/lang/Object" ("p/J" ∷ []) "p/A" []
    ∷ caller (interface_call Interface "p/I" "m" "()V" ∷ [])
    ∷ [])

-- a private method, and one of its name in the same package
abbrev pub private_above : List Placed
private_above = release "g:a:1" (class_of "p/A" (private_m ∷ []) ∷ class_below "p/A" "p/B" (m ∷ []) ∷ [])

-- an interface that calls its own private method, and a class that implements it
abbrev pub private_of_interface : List Placed
private_of_interface = release "g:a:1" (
    interface_of "p/I" [] (private_m ∷ method 0x0001 "k" "()V" (interface_call Interface "p/I" "m" "()V" ∷ []) ∷ [])
    ∷ class_with "java/lang/Object" ("p/I" ∷ []) "p/A" (m ∷ [])
    ∷ [])

-- a class below an absent class that has the method itself, beside a default
abbrev pub class_before_default : List Placed
class_before_default = release "g:a:1" (
    interface_of "p/I" [] (m ∷ [])
    ∷ class_with "x/Y" ("p/I" ∷ []) "p/A" (m ∷ [])
    ∷ caller (call Virtual "x/Y" "m" "()V" ∷ [])
    ∷ [])

-- a static method below an absent class
abbrev pub static_below_absent : List Placed
static_below_absent = release "g:a:1" (
    class_below "x/Y" "p/A" (static_m ∷ [])
    ∷ caller (call Virtual "x/Y" "m" "()V" ∷ [])
    ∷ [])

-- a class below an absent class that has two methods
abbrev pub phantom_by_name : List Placed
phantom_by_name = release "g:a:1" (
    class_below "x/Y" "p/A" (open_method "n" "()V" ∷ m ∷ [])
    ∷ caller (call Virtual "x/Y" "m" "()V" ∷ [])
    ∷ [])

-- a class below an absent class, with a method of Object
abbrev pub object_below_phantom : List Placed
object_below_phantom = release "g:a:1" (
    object_of (m ∷ [])
    ∷ class_below "x/Y" "p/A" []
    ∷ caller (call Virtual "x/Y" "m" "()V" ∷ [])
    ∷ [])

-- a class below an absent class, with a default
abbrev pub default_below_absent : List Placed
default_below_absent = release "g:a:1" (
    interface_of "p/I" [] (m ∷ [])
    ∷ class_with "x/Y" ("p/I" ∷ []) "p/A" []
    ∷ caller (call Virtual "x/Y" "m" "()V" ∷ [])
    ∷ [])

-- an interface's package-private method, and a method of a class of another package above the receiver
abbrev pub class_beside_default : List Placed
class_beside_default = release "g:a:1" (
    interface_of "q/I" [] (package_m ∷ [])
    ∷ class_of "p/A" (m ∷ [])
    ∷ class_with "p/A" ("q/I" ∷ []) "p/B" []
    ∷ caller (interface_call Interface "q/I" "m" "()V" ∷ [])
    ∷ [])

-- below an absent class an abstract class with an abstract method, beside a default, and a class below that
abbrev pub abstract_below_phantom : List Placed
abstract_below_phantom = release "g:a:1" (
    interface_of "p/I" [] (m ∷ [])
    ∷ type_with 0x0421 (Some (codes "x/Y")) "p/A" ("p/I" ∷ []) (abstract_m ∷ [])
    ∷ class_below "p/A" "p/B" []
    ∷ caller (call Virtual "x/Y" "m" "()V" ∷ [])
    ∷ [])

-- ---- Special calls

-- two that fail: of an interface by a Methodref; and of a class that has no such method, while one below it has
abbrev pub special_mismatch : List Placed
special_mismatch = release "g:a:1" (
    interface_of "p/I" [] (m ∷ [])
    ∷ class_with "java/lang/Object" ("p/I" ∷ []) "p/C" (k_calling (call Special "p/I" "m" "()V"))
    ∷ [])

abbrev pub special_absent_method : List Placed
special_absent_method = release "g:a:1" (
    object_of []
    ∷ class_of "p/N" []
    ∷ class_below "p/N" "p/P" (m ∷ [])
    ∷ class_below "p/P" "p/C" (k_calling (call Special "p/N" "m" "()V"))
    ∷ [])

-- an InterfaceMethodref to an absent superclass of the superclass
abbrev pub special_interface_ref : List Placed
special_interface_ref = release "g:a:1" (
    class_below "x/N" "p/P" (m ∷ [])
    ∷ class_below "p/P" "p/C" (k_calling (interface_call Special "x/N" "m" "()V"))
    ∷ [])

-- a class that calls its own private method, of a name that its superclass has too
abbrev pub special_own : List Placed
special_own = release "g:a:1" (
    class_of "p/P" (m ∷ [])
    ∷ class_below "p/P" "p/C" (private_m ∷ k_calling (call Special "p/C" "m" "()V"))
    ∷ [])

-- a method that the named interface has from another, without and with Object's
abbrev default_by_interface : List View → List Placed
default_by_interface views = release "g:a:1" (
    interface_of "p/I" [] (m ∷ [])
    ∷ interface_of "p/J" ("p/I" ∷ []) []
    ∷ class_with "java/lang/Object" ("p/J" ∷ []) "p/C" (k_calling (interface_call Special "p/J" "m" "()V"))
    ∷ views)

abbrev pub special_default : List Placed
special_default = default_by_interface []

abbrev pub special_object_first : List Placed
special_object_first = default_by_interface (object_of (m ∷ []) ∷ [])

-- a method of Object, of a superclass that has an absent superclass
abbrev pub special_object_at_the_end : List Placed
special_object_at_the_end = release "g:a:1" (
    object_of (m ∷ [])
    ∷ class_below "x/Absent" "p/P" []
    ∷ class_below "p/P" "p/C" (k_calling (call Special "p/P" "m" "()V"))
    ∷ [])

-- a default that the superclass has
abbrev pub special_superclass_default : List Placed
special_superclass_default = release "g:a:1" (
    interface_of "p/I" [] (m ∷ [])
    ∷ class_with "java/lang/Object" ("p/I" ∷ []) "p/P" []
    ∷ class_below "p/P" "p/C" (k_calling (call Special "p/P" "m" "()V"))
    ∷ [])

-- an `<init>` of an absent superclass of the superclass, which has one itself
abbrev pub absent_init : List Placed
absent_init = release "g:a:1" (
    class_below "x/N" "p/P" (open_method "<init>" "()V" ∷ [])
    ∷ class_below "p/P" "p/C" (k_calling (call Special "x/N" "<init>" "()V"))
    ∷ [])

-- an absent name that the superclass names as an interface
abbrev pub special_absent_interface : List Placed
special_absent_interface = release "g:a:1" (
    class_with "java/lang/Object" ("x/I" ∷ []) "p/P" (m ∷ [])
    ∷ class_below "p/P" "p/C" (k_calling (call Special "x/I" "m" "()V"))
    ∷ [])

-- an `<init>` of an interface
abbrev pub interface_init : List Placed
interface_init = release "g:a:1" (
    interface_of "p/I" [] (open_method "<init>" "()V" ∷ [])
    ∷ caller (interface_call Special "p/I" "<init>" "()V" ∷ [])
    ∷ [])

-- ---- Edges

-- a static call of an instance method
abbrev pub static_call_of_instance : List Placed
static_call_of_instance = release "g:a:1" (
    class_of "p/A" (m ∷ [])
    ∷ caller (call Static "p/A" "m" "()V" ∷ [])
    ∷ [])

-- by arrays: a virtual and a special call of a static method of Object, and a static call of an instance method
abbrev pub array_kinds : List Placed
array_kinds = release "g:a:1" (
    object_of (static_method "s" "()V" [] ∷ m ∷ [])
    ∷ caller (call Virtual "[I" "s" "()V" ∷ call Special "[I" "s" "()V" ∷ call Static "[I" "m" "()V" ∷ [])
    ∷ [])
