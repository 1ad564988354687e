-- Links and types at or below a name, by the names that a type uses.
use Rattle.std.specs.Prelude.{ℕ, List, [], ◌∷◌, Bool, false, ◌&&◌, ◌||◌, Option, Some, None, option_and_then, is_none, if◌then◌else◌}
use Rattle.fcg_analysis.specs.NamesAndFlags.{same, contains}
use Rattle.fcg_analysis.specs.Declarations.{Placed, object_name, is_named, is_class, is_interface, names_of}
use Rattle.fcg_analysis.specs.Types.{type_named, links, is_below}

-- the known class of a superclass name, where there is one
abbrev pub class_named : List Placed → List (List ℕ) → Option Placed
class_named types [] = None
class_named types (n ∷ ns) = option_and_then (λ u. if is_class u then Some u else None) (type_named types n)

-- it is a known interface, and passes
abbrev pub interface_passes : (Placed → Bool) → Option Placed → Bool
interface_passes p None = false
interface_passes p (Some u) = is_interface u && p u

-- t has a link to the known type
abbrev pub links_to : Placed → Option Placed → Bool
links_to t None = false
links_to t (Some u) = links t u

-- d is at or below the name n by its own name and the names that it uses
abbrev pub is_below_itself : List Placed → Placed → List ℕ → Bool
is_below_itself types d n = same n object_name || is_named n d || is_none (type_named types n) && contains n (names_of d)

-- the type after another in its chain is at or below the name n, where there is one
abbrev pub is_below_next : List Placed → List ℕ → Option Placed → Bool
is_below_next types n None = false
is_below_next types n (Some t) = is_below types t n
