-- The sets of the worked cases. Where it isn't among the types, `java/lang/Object` is in no release.
use Rattle.std.specs.Prelude.{List, [], ◌∷◌, ◌++◌}
use Rattle.fcg_views.specs.declared.view.SiteKind.TheVariants.{Virtual, Interface, Special, Static, Handle}
use Rattle.fcg_views.specs.declared.view.HandleKind.TheVariants.{K6}
use Rattle.fcg_views.specs.declared.view.View.{View}
use Rattle.fcg_analysis.specs.Declarations.{Placed}
use Rattle.fcg_analysis.specs.Cases.ShortForm.{call, interface_call, made, method, open_method, abstract_method, static_method, class_of, class_below, class_with, interface_of, object_of, release}

-- a method that calls itself
abbrev pub self_call : List Placed
self_call = release "g:a:1" (class_of "p/A" (static_method "m" "()V" (call Static "p/A" "m" "()V" ∷ []) ∷ []) ∷ [])

-- one class in two releases
abbrev pub doubled_a : List Placed
doubled_a = release "g:a:1" (class_of "p/X" (static_method "f" "()V" [] ∷ []) ∷ [])

abbrev pub doubled_b : List Placed
doubled_b = release "g:b:1" (
    class_of "p/X" (static_method "f" "()V" (call Static "p/Y" "g" "()V" ∷ []) ∷ [])
    ∷ class_of "p/Y" (static_method "g" "()V" (call Static "p/X" "f" "()V" ∷ []) ∷ [])
    ∷ [])

abbrev pub doubled_class : List Placed
doubled_class = doubled_a ++ doubled_b

abbrev pub doubled_class_turned : List Placed
doubled_class_turned = doubled_b ++ doubled_a

-- two classes of an interface that is in no release
abbrev pub absent_interface : List Placed
absent_interface = release "g:a:1" (
    class_with "java/lang/Object" ("java/lang/Runnable" ∷ []) "p/R1" (open_method "run" "()V" ∷ [])
    ∷ class_with "java/lang/Object" ("java/lang/Runnable" ∷ []) "p/R2" (open_method "run" "()V" ∷ [])
    ∷ class_of "p/M" (static_method "m" "()V" (interface_call Interface "java/lang/Runnable" "run" "()V" ∷ []) ∷ [])
    ∷ [])

-- a package-private method, overridden in its own package, and from there in another; and not overridden from another
abbrev pub package_private : List Placed
package_private = release "g:a:1" (
    class_of "p/A" (method 0 "m" "()V" [] ∷ [])
    ∷ class_below "p/A" "p/B" (open_method "m" "()V" ∷ [])
    ∷ class_below "p/B" "q/C" (open_method "m" "()V" ∷ [])
    ∷ class_below "p/A" "q/D" (open_method "m" "()V" ∷ [])
    ∷ class_of "p/T" (static_method "t" "()V" (call Virtual "p/A" "m" "()V" ∷ []) ∷ [])
    ∷ [])

-- a class that calls its own method, which it has from interfaces alone
abbrev caller_of_k : View
caller_of_k = class_of "p/T" (static_method "t" "()V" (call Virtual "p/K" "m" "()V" ∷ []) ∷ [])

-- two defaults, neither below the other
abbrev pub two_defaults : List Placed
two_defaults = release "g:a:1" (
    interface_of "p/I" [] (open_method "m" "()V" ∷ [])
    ∷ interface_of "p/J" [] (open_method "m" "()V" ∷ [])
    ∷ class_with "java/lang/Object" ("p/I" ∷ "p/J" ∷ []) "p/K" []
    ∷ caller_of_k ∷ [])

-- a default beside an abstract method
abbrev pub default_beside_abstract : List Placed
default_beside_abstract = release "g:a:1" (
    interface_of "p/I" [] (open_method "m" "()V" ∷ [])
    ∷ interface_of "p/J" [] (abstract_method "m" "()V" ∷ [])
    ∷ class_with "java/lang/Object" ("p/I" ∷ "p/J" ∷ []) "p/K" []
    ∷ caller_of_k ∷ [])

-- a default below two others
abbrev pub default_below : List Placed
default_below = release "g:a:1" (
    interface_of "p/I" [] (open_method "m" "()V" ∷ [])
    ∷ interface_of "p/J" [] (open_method "m" "()V" ∷ [])
    ∷ interface_of "p/L" ("p/I" ∷ "p/J" ∷ []) (open_method "m" "()V" ∷ [])
    ∷ class_with "java/lang/Object" ("p/L" ∷ []) "p/K" []
    ∷ caller_of_k ∷ [])

-- a public method, and below it a private and a static one of its name
abbrev pub private_and_static : List Placed
private_and_static = release "g:a:1" (
    class_of "p/A" (open_method "m" "()V" ∷ [])
    ∷ class_below "p/A" "p/B" (method 0x0002 "m" "()V" [] ∷ [])
    ∷ class_below "p/A" "p/C" (static_method "m" "()V" [] ∷ [])
    ∷ class_of "p/T" (static_method "t" "()V" (call Virtual "p/A" "m" "()V" ∷ []) ∷ [])
    ∷ [])

-- a class that calls its superclass's method, over two releases of that
abbrev special_caller : List Placed
special_caller = release "a:a:1" (class_below "p/P" "p/C" (method 0x0001 "m" "()V" (call Special "p/P" "m" "()V" ∷ []) ∷ []) ∷ [])

abbrev pub special_super : List Placed
special_super =
    release "l:l:1" (class_of "p/G" (open_method "m" "()V" ∷ []) ∷ class_below "p/G" "p/P" [] ∷ [])
    ++ special_caller

abbrev pub special_super_moved : List Placed
special_super_moved =
    release "l:l:2" (
    class_of "p/G" (open_method "m" "()V" ∷ [])
    ∷ class_of "p/H" (open_method "m" "()V" ∷ [])
    ∷ class_below "p/H" "p/P" []
    ∷ [])
    ++ special_caller

-- a program, the interface that it logs by, and what stands behind it
abbrev pub logging_set : List Placed
logging_set =
    release "shop:app:1" (
    class_of "shop/Main" (
    static_method "main" "([Ljava/lang/String;)V" (
    call Static "log/Factory" "get" "()Llog/Logger;"
    ∷ interface_call Interface "log/Logger" "info" "(Ljava/lang/String;)V"
    ∷ [])
    ∷ [])
    ∷ [])
    ++ release "log:api:1" (
    interface_of "log/Logger" [] (abstract_method "info" "(Ljava/lang/String;)V" ∷ [])
    ∷ class_of "log/Factory" (static_method "get" "()Llog/Logger;" (call Static "log/Binder" "get" "()Llog/Logger;" ∷ []) ∷ [])
    ∷ [])
    ++ release "log:impl:1" (
    class_of "log/Binder" (
    static_method "get" "()Llog/Logger;" (made "impl/Simple" ∷ call Special "impl/Simple" "<init>" "()V" ∷ [])
    ∷ [])
    ∷ class_with "java/lang/Object" ("log/Logger" ∷ []) "impl/Simple" (
    method 0x0001 "<init>" "()V" (call Special "java/lang/Object" "<init>" "()V" ∷ [])
    ∷ method 0x0001 "info" "(Ljava/lang/String;)V" (call Static "impl/Out" "write" "(Ljava/lang/String;)V" ∷ [])
    ∷ [])
    ∷ class_of "impl/Out" (static_method "write" "(Ljava/lang/String;)V" [] ∷ [])
    ∷ [])

-- two classes, each the superclass of the other, and one below them
abbrev pub circular_types : List Placed
circular_types =
    release "g:a:1" (class_below "p/B" "p/A" (open_method "m" "()V" ∷ []) ∷ [])
    ++ release "g:b:1" (class_below "p/A" "p/B" [] ∷ [])
    ++ release "g:c:1" (
    class_below "p/A" "p/C" (open_method "m" "()V" ∷ [])
    ∷ class_of "p/T" (static_method "t" "()V" (call Virtual "p/A" "m" "()V" ∷ []) ∷ [])
    ∷ [])

-- two walks of the same length
abbrev pub two_chains : List Placed
two_chains = release "g:d:1" (
    class_of "p/T" (static_method "t" "()V" (call Static "p/L" "l" "()V" ∷ call Static "p/R" "r" "()V" ∷ []) ∷ [])
    ∷ class_of "p/L" (static_method "l" "()V" (call Static "p/Z" "z" "()V" ∷ []) ∷ [])
    ∷ class_of "p/R" (static_method "r" "()V" (call Static "p/Z" "z" "()V" ∷ []) ∷ [])
    ∷ class_of "p/Z" (static_method "z" "()V" [] ∷ [])
    ∷ [])

-- an `invokedynamic` of a lambda
abbrev pub lambda : List Placed
lambda = release "g:a:1" (
    class_of "p/L" (
    static_method "main" "()V" (
    call (Handle K6) "java/lang/invoke/LambdaMetafactory" "metafactory" "()V"
    ∷ call (Handle K6) "p/L" "lambda$main$0" "()V"
    ∷ [])
    ∷ static_method "lambda$main$0" "()V" []
    ∷ [])
    ∷ [])

-- Object in a release
abbrev pub object_present : List Placed
object_present = release "j:b:1" (
    object_of (open_method "hashCode" "()I" ∷ [])
    ∷ class_of "p/T" (static_method "t" "()V" (call Virtual "[I" "hashCode" "()I" ∷ call Virtual "p/T" "none" "()V" ∷ []) ∷ [])
    ∷ [])
