-- Overriding (JVMS 5.4.5) and selection (JVMS 5.4.6; docs/analysis.md, Overriding and selection).
use Rattle.std.specs.Prelude.{ℕ, zero, suc, List, [], Bool, not, ◌&&◌, ◌||◌, Option, Some, None, find, drop, length, if◌then◌else◌}
use Rattle.std.specs.List.{list_any}
use Rattle.fcg_analysis.specs.NamesAndFlags.{same, before, package_of, or_else, found_in}
use Rattle.fcg_analysis.specs.Declarations.{Placed, Signature, signature_of, has_signature, is_type, is_public, is_protected, is_private, is_package_private, is_instance}
use Rattle.fcg_analysis.specs.Types.{chain}
use Rattle.fcg_analysis.specs.Nodes.{Node, nodes, one_default}
use Rattle.fcg_analysis.specs.Resolution.{Outcome, Found, Phantom, Failed}

-- the classes of the chain of c after c and before a, where a stands in it
unfoldable pub between : List Placed → Placed → Placed → List Placed
between types c a =
    let after = drop 1 (chain types c) in if list_any (is_type a) after then before (is_type a) after else []

abbrev pub same_package : Node → Node → Bool
same_package m n = same (package_of m.owner.view.name) (package_of n.owner.view.name)

-- the first three cases, which look at the two methods alone
abbrev pub overrides_directly : Node → Node → Bool
overrides_directly c a =
    is_public a.method || is_protected a.method || is_package_private a.method && same_package c a

-- what all four cases ask: instance methods of one name and descriptor, of which the overriding one isn't private
abbrev pub is_candidate : Node → Node → Bool
is_candidate c a =
    is_instance c.method && is_instance a.method && has_signature (signature_of a.method) c.method && not (is_private c.method)

-- the fourth case goes over n classes between at most
abbrev pub overrides_over : ℕ → List Placed → Node → Node → Bool
overrides_over zero types c a = is_candidate c a && overrides_directly c a
overrides_over (suc n) types c a =
    is_candidate c a
    && (overrides_directly c a
    || is_package_private a.method
    && list_any (λ t. list_any (λ b. is_type t b.owner && (overrides_over n types c b && overrides_over n types b a)) (nodes types))
    (between types c.owner a.owner))

unfoldable pub can_override : List Placed → Node → Node → Bool
can_override types c a = overrides_over (length (between types c.owner a.owner)) types c a

-- every non-private instance method of the name and descriptor can override a phantom
abbrev pub can_override_phantom : Signature → Node → Bool
can_override_phantom s c = has_signature s c.method && is_instance c.method && not (is_private c.method)

-- ---- Selection

-- the method of the first of these types that declares one that passes
abbrev pub searched : List Placed → (Node → Bool) → List Placed → Option Node
searched types test line = found_in (λ t. find (λ m. is_type t m.owner && test m) (nodes types)) line

unfoldable pub selected : List Placed → Placed → Outcome → Signature → Option Node
selected types d (Failed cause) s = None
selected types d Phantom s = or_else (searched types (can_override_phantom s) (chain types d)) (one_default types d s)
selected types d (Found a) s =
    if is_private a.method then Some a
    else or_else (searched types (λ c. can_override types c a) (chain types d)) (one_default types d s)
