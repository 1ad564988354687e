-- Nodes as methods of types, and superinterface methods.
use Rattle.std.specs.Prelude.{◌≡◌, ◌⊎◌, ℕ, ◌+◌, ◌-◌, ◌<◌, ◌≤◌, true, false, List, Some, Contains, flat_map, map, length, sum_by, take, slice_get}
use Rattle.std.specs.List.{IsDistinct}
use Rattle.fcg_views.specs.declared.view.Method.{Method}
use Rattle.fcg_views.specs.Valid.{is_alike}
use Rattle.fcg_analysis.specs.Declarations.{Placed, Signature, signature_of, has_signature, is_interface, is_private, is_static}
use Rattle.fcg_analysis.specs.Types.{above, is_above}
use Rattle.fcg_analysis.specs.Nodes.{Node, nodes, super_methods, specific}

-- ---- Nodes

-- the methods of types, one type after the other
abbrev pub methods_of : List Placed → List (Placed × Method)
methods_of types = flat_map (λ t. map (λ m. (t, m)) t.view.methods) types

-- some node is the method m of t
pub record IsMethodNode (types : List Placed) (t : Placed) (m : Method) : Type 0 where
  pub node : Node
  pub node_in : Contains (nodes types) node
  pub owner : node.owner ≡ t
  pub method : node.method ≡ m

-- how many methods the types have
abbrev pub method_total : List Placed → ℕ
method_total types = sum_by (λ t. length t.view.methods) types

-- the number of the first node of the type at a place: how many methods the types before it have
abbrev pub first_node : List Placed → ℕ → ℕ
first_node types place = method_total (take place types)

abbrev pub node_at : ℕ → Placed → Method → Node
node_at n t m = record { number = n; owner = t; method = m }

-- the node at the place n has this number, and is a method of the type whose row of nodes has the number
pub record IsMethodAt (types : List Placed) (n : ℕ) (m : Node) : Type 0 where
  pub number : m.number ≡ n
  pub place : ℕ
  pub owner : slice_get types place ≡ Some m.owner
  pub from' : first_node types place ≤ n
  pub until : n < first_node types place + length m.owner.view.methods
  pub method : slice_get m.owner.view.methods (n - first_node types place) ≡ Some m.method

-- no type declares two methods of one name and descriptor, as no class file does (JVMS 4.6)
abbrev pub AreApart : List Placed → Type 0
AreApart types = (t : Placed) → Contains types t → IsDistinct is_alike t.view.methods

-- no type has two methods of one name and descriptor, as no class file has (JVMS 4.6)
abbrev pub IsSingle : List Placed → Type 0
IsSingle types =
    (m n : Node) → Contains (nodes types) m → Contains (nodes types) n → m.owner ≡ n.owner
    → has_signature (signature_of m.method) n.method ≡ true → m ≡ n

-- ---- Superinterface methods

-- a method of the signature in an interface above t, neither private nor static
pub record IsSuperMethod (types : List Placed) (t : Placed) (s : Signature) (m : Node) : Type 0 where
  pub node_in : Contains (nodes types) m
  pub above' : Contains (above types t) m.owner
  pub interface : is_interface m.owner ≡ true
  pub signature : has_signature s m.method ≡ true
  pub not_private : is_private m.method ≡ false
  pub not_static : is_static m.method ≡ false

-- maximally-specific as JVMS 5.4.3.3 has it: no other maximally-specific one is declared in an interface below its own
pub record IsMaximal (types : List Placed) (t : Placed) (s : Signature) (m : Node) : Type 0 where
  pub method_in : Contains (super_methods types t s) m
  pub none_below : (o : Node) → Contains (specific types t s) o → is_above types o.owner m.owner ≡ false

-- a maximally-specific one is m, or is declared in an interface below that of m
pub record HasSpecific (types : List Placed) (t : Placed) (s : Signature) (m : Node) : Type 0 where
  pub node : Node
  pub node_in : Contains (specific types t s) node
  pub below : (node ≡ m) ⊎ (is_above types node.owner m.owner ≡ true)

-- t and u have the same interfaces above them
abbrev pub SameInterfaces : List Placed → Placed → Placed → Type 0
SameInterfaces types t u = (v : Placed) → Contains types v → is_interface v ≡ true → is_above types t v ≡ is_above types u v
