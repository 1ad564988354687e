-- The methods of the known types, and those that a type has from the interfaces above it (docs/analysis.md, Methods).
use Rattle.std.specs.Prelude.{ℕ, ◌+◌, List, [], ◌∷◌, Bool, not, ◌&&◌, ◌||◌, ◌==◌, Option, filter, map, find, flat_map}
use Rattle.std.specs.List.{list_any}
use Rattle.fcg_views.specs.declared.view.Method.{Method}
use Rattle.fcg_views.specs.declared.uri.MethodUri.{MethodUri}
use Rattle.fcg_analysis.specs.NamesAndFlags.{one, first_of_list}
use Rattle.fcg_analysis.specs.Declarations.{Placed, Signature, has_signature, is_type, is_interface, is_abstract, is_private, is_static}
use Rattle.fcg_analysis.specs.Types.{above, is_above}

-- ---- Nodes. The methods of the known types, in their order, numbered from 0.

pub record Node : Type 0 where
  pub number : ℕ
  pub owner : Placed
  pub method : Method

-- what a node is named by
abbrev pub identity : Node → MethodUri
identity m = record { coordinate = m.owner.coordinate; class = m.owner.view.name; name = m.method.name; desc = m.method.desc }

abbrev pub is_node : Node → Node → Bool
is_node m n = m.number == n.number

abbrev pub nodes_from : ℕ → List (Placed × Method) → List Node
nodes_from n [] = []
nodes_from n (m ∷ ms) = record { number = n; owner = m.0; method = m.1 } ∷ nodes_from (n + 1) ms

unfoldable pub nodes : List Placed → List Node
nodes types = nodes_from 0 (flat_map (λ t. map (λ m. (t, m)) t.view.methods) types)

-- the node of this signature that t declares; of two, which no class file has, the first
abbrev pub declared : List Placed → Signature → Placed → Option Node
declared types s t = find (λ m. is_type t m.owner && has_signature s m.method) (nodes types)

-- ---- Superinterface methods (JVMS 5.4.3.3), in the order of nodes

unfoldable pub super_methods : List Placed → Placed → Signature → List Node
super_methods types t s =
    let upward = above types t in
    filter (λ m. has_signature s m.method && not (is_private m.method || is_static m.method) && is_interface m.owner
    && list_any (is_type m.owner) upward) (nodes types)

-- the maximally-specific ones: no other of them is declared in an interface below its own
unfoldable pub specific : List Placed → Placed → Signature → List Node
specific types t s =
    let all = super_methods types t s in
    filter (λ m. not (list_any (λ o. is_above types o.owner m.owner) all)) all

-- the non-abstract one of these, where there is exactly one
unfoldable pub one_default : List Placed → Placed → Signature → Option Node
one_default types t s = one (filter (λ m. not (is_abstract m.method)) (specific types t s))

-- the first of all of them, maximally-specific or not
unfoldable pub first_super_method : List Placed → Placed → Signature → Option Node
first_super_method types t s = first_of_list (super_methods types t s)
