-- Method resolution (JVMS 5.4.3.3 and 5.4.3.4; docs/analysis.md, Resolution).
use Rattle.std.specs.Prelude.{List, ◌&&◌, Option, Some, None, option_and_then, if◌then◌else◌}
use Rattle.fcg_views.specs.declared.view.Ref.{Ref}
use Rattle.fcg_analysis.specs.NamesAndFlags.{or_else, found_in}
use Rattle.fcg_analysis.specs.Declarations.{Placed, Signature, signature_in, is_class, is_interface, is_public, is_instance, has_array_owner}
use Rattle.fcg_analysis.specs.Types.{type_named, object, has_gap, chain}
use Rattle.fcg_analysis.specs.Nodes.{Node, declared, one_default, first_super_method}

pub data Cause : Type 0 where
  KindMismatch : Cause
  NoSuchMethod : Cause

-- Phantom: the method isn't known, since its owner, or something from which that has methods, isn't. It counts as a method
-- that is public, abstract and not static, in `is_dispatched`, `goes_on` and `can_override_phantom`.
pub data Outcome : Type 0 where
  Found : Node → Outcome
  Phantom : Outcome
  Failed : Cause → Outcome

abbrev pub found_or : Outcome → Option Node → Outcome
found_or otherwise None = otherwise
found_or otherwise (Some m) = Found m

-- nothing is found from t
abbrev pub nothing_found : List Placed → Placed → Outcome
nothing_found types t = if has_gap types t then Phantom else Failed NoSuchMethod

-- the public instance method of Object
abbrev pub public_of_object : List Placed → Signature → Option Node
public_of_object types s =
    option_and_then (λ m. if is_public m.method && is_instance m.method then Some m else None)
    (option_and_then (declared types s) (object types))

-- a Methodref to a known class
abbrev pub method_of_class : List Placed → Signature → Placed → Outcome
method_of_class types s t =
    if is_interface t then Failed KindMismatch
    else found_or (nothing_found types t)
    (or_else (found_in (declared types s) (chain types t))
    (or_else (one_default types t s)
    (first_super_method types t s)))

-- an InterfaceMethodref to a known interface
abbrev pub method_of_interface : List Placed → Signature → Placed → Outcome
method_of_interface types s t =
    if is_class t then Failed KindMismatch
    else found_or (nothing_found types t)
    (or_else (declared types s t)
    (or_else (public_of_object types s)
    (or_else (one_default types t s)
    (first_super_method types t s))))

-- Object's own method, where Object is present
abbrev pub method_of_array : List Placed → Ref → Outcome
method_of_array types r =
    if r.owner_is_interface_ref then Failed KindMismatch
    else of_object (object types)
  where
    of_object : Option Placed → Outcome
    of_object None = Phantom
    of_object (Some o) = found_or (Failed NoSuchMethod) (declared types (signature_in r) o)

abbrev pub method_of_owner : List Placed → Ref → Option Placed → Outcome
method_of_owner types r None = Phantom
method_of_owner types r (Some t) =
    if r.owner_is_interface_ref then method_of_interface types (signature_in r) t
    else method_of_class types (signature_in r) t

unfoldable pub resolved : List Placed → Ref → Outcome
resolved types r =
    if has_array_owner r then method_of_array types r
    else method_of_owner types r (type_named types r.owner)
