-- What a Joined tells. Contracts see it as the parts that it is made from: its types are the known types of these, and
-- its methods are their nodes. A number is a place in one of the two lists.
use Rattle.std.specs.Prelude.{◌≡◌, ℕ, ◌+◌, List, Option, Some, None, length, option_map, position, slice_get, take}
use Rattle.fcg_partial.specs.Parts.{PartShown}
use Rattle.fcg_analysis.specs.Declarations.{Placed, Signature, is_type}
use Rattle.fcg_analysis.specs.Nodes.{Node}
use Rattle.fcg_analysis.specs.Laws.Methods.{first_node}
use Rattle.fcg_join.specs.declared.id.TypeId.{TypeId}
use Rattle.fcg_join.specs.declared.id.MethodId.{MethodId}
use Rattle.fcg_join.specs.declared.id.TypeOrigin.{TypeOrigin}
use Rattle.fcg_join.specs.NodeTables.{IsNumberOf}
use Rattle.fcg_join.specs.Parts.{placed_of, placed, views_before, types_of, nodes_of}

-- a number is that of a type, or there is neither
abbrev pub IsTypeNumber : List Placed → Option ℕ → Option Placed → Type 0
IsTypeNumber types None None = Unit {0}
IsTypeNumber types None (Some t) = ⊥
IsTypeNumber types (Some y) None = ⊥
IsTypeNumber types (Some y) (Some t) = slice_get types y ≡ Some t

-- t is the type of a number
abbrev pub HasType : List PartShown → TypeId → Placed → Type 0
HasType parts id t = slice_get (types_of parts) id.0 ≡ Some t

-- n is the node of a number
abbrev pub HasNode : List PartShown → MethodId → Node → Type 0
HasNode parts id n = slice_get (nodes_of parts) id.0 ≡ Some n

-- what is found: the number of the type, and none where there is none
abbrev pub GivesType : List PartShown → Option TypeId → Option Placed → Type 0
GivesType parts found t = IsTypeNumber (types_of parts) (option_map (λ id. id.0) found) t

-- what is found: the number of the node, and none where there is none
abbrev pub GivesNode : List PartShown → Option MethodId → Option Node → Type 0
GivesNode parts found n = IsNumberOf (types_of parts) (option_map (λ id. id.0) found) n

-- The type stands at a place of a part, and no view of its name stands before; its methods are so many nodes from a first on.
pub record IsOrigin (parts : List PartShown) (id : TypeId) (t : Placed) (o : TypeOrigin) : Type 0 where
  pub part : PartShown
  pub part_is : slice_get parts o.part ≡ Some part
  pub type_is : slice_get (placed_of part) o.place ≡ Some t
  pub first_of_name : position (is_type t) (placed parts) ≡ Some (views_before (take o.part parts) + o.place)
  pub first : o.first ≡ first_node (types_of parts) id.0
  pub methods : o.methods ≡ length t.view.methods

abbrev pub signature : List ℕ → List ℕ → Signature
signature name desc = record { name = name; desc = desc }
