-- Which types a set has, and how they stand to one another (docs/analysis.md, Types).
use Rattle.std.specs.Prelude.{ℕ, zero, suc, List, [], ◌∷◌, ◌++◌, Bool, not, ◌&&◌, ◌||◌, Option, Some, None, filter, find, length, option_to_list, is_none, if◌then◌else◌}
use Rattle.std.specs.List.{list_any}
use Rattle.fcg_analysis.specs.NamesAndFlags.{same, contains}
use Rattle.fcg_analysis.specs.Walks.{led_to}
use Rattle.fcg_analysis.specs.Declarations.{Placed, object_name, is_named, is_type, is_interface, is_class, is_object, superclass_names, interface_names, names_of}

-- ---- Winner. A view wins where no earlier view has its name.

abbrev pub winners_after : List Placed → List Placed → List Placed
winners_after earlier [] = []
winners_after earlier (t ∷ later) =
    if list_any (is_type t) earlier then winners_after (earlier ++ t ∷ []) later
    else (t ∷ winners_after (earlier ++ t ∷ []) later)

unfoldable pub winners : List Placed → List Placed
winners views = winners_after [] views

-- ---- Links. A type links to the class that its superclass entry names, and to each interface that it names as an
-- interface. A mention of the wrong kind is no link.

abbrev pub extends : Placed → Placed → Bool
extends t u = is_class u && contains u.view.name (superclass_names t)

abbrev pub implements : Placed → Placed → Bool
implements t u = is_interface u && contains u.view.name (interface_names t)

abbrev pub links : Placed → Placed → Bool
links t u = extends t u || implements t u

-- ---- Above. One or more links lead from t to u.

unfoldable pub above : List Placed → Placed → List Placed
above types t = led_to links types t

abbrev pub is_above : List Placed → Placed → Placed → Bool
is_above types t u = list_any (is_type u) (above types t)

-- ---- Known types. A winner from which one or more links lead back to itself is circular.

abbrev pub is_circular : List Placed → Placed → Bool
is_circular types t = is_above types t t

unfoldable pub known : List Placed → List Placed
known views = let types = winners views in filter (λ t. not (is_circular types t)) types

-- From here on `types` are the known types of a set.

-- the known type of a name
abbrev pub type_named : List Placed → List ℕ → Option Placed
type_named types n = find (is_named n) types

abbrev pub object : List Placed → Option Placed
object types = find (λ t. is_object t && is_class t) types

-- ---- Gap. Not all that a type has from above is known.

-- t uses a name to which it has no link, of either kind
abbrev pub uses_unlinked_name : List Placed → Placed → Bool
uses_unlinked_name types t = list_any (λ n. not (list_any (λ u. is_named n u && links t u) types)) (names_of t)

unfoldable pub has_gap : List Placed → Placed → Bool
has_gap types t = is_none (object types) || list_any (uses_unlinked_name types) (t ∷ above types t)

-- ---- Chain. The classes in which a method is looked up, one after the other.

abbrev pub superclass : List Placed → Placed → Option Placed
superclass types t = find (extends t) types

-- t, its linked superclass, and so on, n types at most
abbrev pub superclass_line : ℕ → List Placed → Option Placed → List Placed
superclass_line n types None = []
superclass_line zero types (Some t) = []
superclass_line (suc n) types (Some t) = t ∷ superclass_line n types (superclass types t)

-- no line of known types is longer than there are types
unfoldable pub line : List Placed → Placed → List Placed
line types t = superclass_line (length types) types (Some t)

unfoldable pub chain : List Placed → Placed → List Placed
chain types t =
    let own = line types t in
    own ++ filter (λ o. is_class t && not (list_any (is_type o) own)) (option_to_list (object types))

-- ---- At or below a name. The types that a receiver may have where a reference names N as its owner.

unfoldable pub is_below : List Placed → Placed → List ℕ → Bool
is_below types d n =
    let upward = d ∷ above types d in
    same n object_name
    || list_any (is_named n) upward
    || is_none (type_named types n) && list_any (λ u. contains n (names_of u)) upward
