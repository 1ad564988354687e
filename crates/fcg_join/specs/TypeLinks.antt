-- The links of types, by the types' numbers.
use Rattle.std.specs.Prelude.{◌≡◌, ◌↔◌, ℕ, ◌++◌, true, List, Option, Some, None, flat_map, length, option_and_then, option_to_list, slice_get, if◌then◌else◌}
use Rattle.fcg_analysis.specs.Declarations.{Placed, is_interface, superclass_names, interface_names}
use Rattle.fcg_analysis.specs.Types.{type_named, links}
use Rattle.fcg_analysis.specs.Laws.ByName.{class_named}
use Rattle.fcg_order.specs.Links.{HasLink, IsWithin}

-- t has the number x: it stands at this place of the list
abbrev pub HasTypeAt : List Placed → ℕ → Placed → Type 0
HasTypeAt types x t = slice_get types x ≡ Some t

-- each type has a row, and its row has the numbers of the types to which it links
pub record HasLinks (types : List Placed) (rows : List (List ℕ)) : Type 0 where
  pub long : length rows ≡ length types
  pub within : IsWithin rows
  pub each : (x y : ℕ) (t u : Placed) → HasTypeAt types x t → HasTypeAt types y u → HasLink rows x y ↔ (links t u ≡ true)

-- the known interface of a name, where there is one
abbrev pub interface_named : List Placed → List ℕ → Option Placed
interface_named types n = option_and_then (λ u. if is_interface u then Some u else None) (type_named types n)

-- the types to which t links, by the names that it uses: the interfaces of its interfaces' names, and the class of its
-- superclass's name
abbrev pub linked_types : List Placed → Placed → List Placed
linked_types types t = flat_map (λ n. option_to_list (interface_named types n)) (interface_names t) ++ option_to_list (class_named types (superclass_names t))
