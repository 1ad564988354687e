-- The method of an `invokespecial` (JVMS 6.5; docs/analysis.md, Special calls), in a class x with a reference to N. Own
-- choices: an absent superclass counts by its name; an InterfaceMethodref never starts at the superclass; ACC_SUPER counts
-- as set.
use Rattle.std.specs.Prelude.{ℕ, List, Bool, true, false, not, ◌&&◌, ◌||◌, Option, Some, None, drop, is_none, codes, option_and_then, if◌then◌else◌}
use Rattle.std.specs.List.{list_any}
use Rattle.fcg_views.specs.declared.view.Ref.{Ref}
use Rattle.fcg_analysis.specs.NamesAndFlags.{same, contains, or_else}
use Rattle.fcg_analysis.specs.Declarations.{Placed, Signature, signature_in, has_signature, is_named, is_class, is_interface, is_instance, superclass_names}
use Rattle.fcg_analysis.specs.Types.{type_named, superclass, line, chain}
use Rattle.fcg_analysis.specs.Nodes.{Node, one_default}
use Rattle.fcg_analysis.specs.Resolution.{Outcome, Found, Phantom, Failed, resolved, public_of_object}
use Rattle.fcg_analysis.specs.Selection.{searched}

-- N names a class above x by superclass links, or an absent superclass of x or of such a class
abbrev pub is_superclass_name : List Placed → Placed → List ℕ → Bool
is_superclass_name types x n =
    let own = line types x in
    list_any (is_named n) (drop 1 own) || is_none (type_named types n) && list_any (λ t. contains n (superclass_names t)) own

-- where the search starts: at the linked superclass of x, or at the known type N
abbrev pub search_start : List Placed → Placed → Ref → Option Placed
search_start types x r =
    if not r.owner_is_interface_ref && is_superclass_name types x r.owner then superclass types x
    else type_named types r.owner

-- the method that a search from a type takes
abbrev pub found_from : List Placed → Signature → Placed → Option Node
found_from types s start =
    or_else (searched types (λ m. has_signature s m.method && is_instance m.method) (chain types start))
    (or_else (if is_interface start then public_of_object types s else None)
    (one_default types start s))

abbrev pub is_init : Ref → Bool
is_init r = same (codes "<init>") r.name

-- an `<init>` must be declared in the known class that is named
abbrev pub special_init : Ref → Outcome → Option Node
special_init r (Found m) = if is_named r.owner m.owner && is_class m.owner then Some m else None
special_init r Phantom = None
special_init r (Failed cause) = None

-- a failed outcome or a static method gives nothing
abbrev pub goes_on : Outcome → Bool
goes_on (Failed cause) = false
goes_on Phantom = true
goes_on (Found m) = is_instance m.method

unfoldable pub special : List Placed → Placed → Ref → Option Node
special types x r =
    let outcome = resolved types r in
    if not (goes_on outcome) then None
    else (if is_init r then special_init r outcome
    else option_and_then (found_from types (signature_in r)) (search_start types x r))
