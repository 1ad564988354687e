-- Nodes by their numbers: the first of each type, the type of each, and those that declare a signature.
use Rattle.std.specs.Prelude.{◌≡◌, ℕ, ◌+◌, ◌==◌, ◌&&◌, Bool, not, List, [], ◌∷◌, ◌++◌, Option, Some, None, filter, length, map, replicate, slice_get, slice_index_or, true}
use Rattle.std.specs.List.{list_any}
use Rattle.fcg_analysis.specs.Declarations.{Placed, Signature, has_signature}
use Rattle.fcg_analysis.specs.Nodes.{Node, nodes}

-- m has the number k: it stands at this place of the nodes
abbrev pub HasNodeAt : List Placed → ℕ → Node → Type 0
HasNodeAt types k m = slice_get (nodes types) k ≡ Some m

-- a number is that of a node, or there is neither
abbrev pub IsNumberOf : List Placed → Option ℕ → Option Node → Type 0
IsNumberOf types None None = Unit {0}
IsNumberOf types None (Some m) = ⊥
IsNumberOf types (Some k) None = ⊥
IsNumberOf types (Some k) (Some m) = HasNodeAt types k m

-- of each type the number of its first node, the first of which is n
abbrev pub first_nodes_from : ℕ → List Placed → List ℕ
first_nodes_from n [] = []
first_nodes_from n (t ∷ ts) = n ∷ first_nodes_from (n + length t.view.methods) ts

abbrev pub first_nodes : List Placed → List ℕ
first_nodes types = first_nodes_from 0 types

-- of each node the number of its type, the first of which is x
abbrev pub owners_from : ℕ → List Placed → List ℕ
owners_from x [] = []
owners_from x (t ∷ ts) = replicate (length t.view.methods) x ++ owners_from (x + 1) ts

abbrev pub owners : List Placed → List ℕ
owners types = owners_from 0 types

abbrev pub numbers_of : List Node → List ℕ
numbers_of ms = map (λ m. m.number) ms

-- the numbers of the nodes of a signature
abbrev pub declarers : List Placed → Signature → List ℕ
declarers types s = numbers_of (filter (λ m. has_signature s m.method) (nodes types))

-- a node of the signature has the number
pub record IsDeclarer (types : List Placed) (s : Signature) (k : ℕ) : Type 0 where
  pub node : Node
  pub there : HasNodeAt types k node
  pub signature : has_signature s node.method ≡ true

-- the owner of the node k is another type than x, and the row of x has the number of its name
abbrev pub owner_in_row : (ℕ → List ℕ) → (ℕ → ℕ) → List ℕ → ℕ → ℕ → Bool
owner_in_row rows name_at owner_numbers x k =
    let owner = slice_index_or owner_numbers k 0 in not (x == owner) && list_any (λ n. n == name_at owner) (rows x)
