-- What the laws say.
use Rattle.std.specs.Prelude.{◌<◌, ◌+◌, ◌≡◌, ◌≤◌, ℕ, true, List, [], Option, Some, None, Contains, Bool, not, ◌&&◌, ◌||◌, filter, option_to_list, if◌then◌else◌}
use Rattle.std.specs.List.{list_any}
use Rattle.std.specs.declared.cmp.Ordering.{Ordering}
use Rattle.std.specs.Ordering.{nat_cmp, ordering_then}
use Rattle.fcg_analysis.specs.Walks.{Walk}
use Rattle.fcg_analysis.specs.Declarations.{Placed, Signature, is_class, is_type, is_public, is_private, is_protected, is_package_private}
use Rattle.fcg_analysis.specs.Types.{links, line, chain, object, is_circular}
use Rattle.fcg_analysis.specs.Nodes.{Node, nodes, one_default}
use Rattle.fcg_analysis.specs.Selection.{between, is_candidate, overrides_directly, same_package, can_override, can_override_phantom}
use Rattle.fcg_analysis.specs.Edges.{edge}
use Rattle.fcg_analysis.specs.Reach.{Edges, WalkOf, leads, dist}

-- ---- Types

-- no walk leads from a type back to itself
abbrev pub IsAcyclic : List Placed → Type 0
IsAcyclic types = (t : Placed) → Contains types t → Walk links types t t → ⊥

-- the line of the linked superclass, where there is one
abbrev pub line_above : List Placed → Option Placed → List Placed
line_above types None = []
line_above types (Some s) = line types s

-- what follows t in its chain
abbrev pub chain_above : List Placed → Placed → Option Placed → List Placed
chain_above types t None = filter (λ o. is_class t && not (is_type o t)) (option_to_list (object types))
chain_above types t (Some s) = chain types s

-- t has a public or protected method in the package of a, which c overrides and which overrides a
abbrev pub hands_on : List Placed → Node → Node → Placed → Bool
hands_on types c a t =
    list_any (λ b. is_type t b.owner && (is_candidate c b && (is_candidate b a && ((is_public b.method || is_protected b.method) && same_package b a))))
    (nodes types)

-- overriding put shortly: one method between is enough
abbrev pub overrides_shortly : List Placed → Node → Node → Bool
overrides_shortly types c a =
    is_candidate c a
    && (overrides_directly c a || is_package_private a.method && list_any (hands_on types c a) (between types c.owner a.owner))

-- a winner, where it isn't circular
abbrev pub unless_circular : List Placed → Option Placed → Option Placed
unless_circular types None = None
unless_circular types (Some t) = if is_circular types t then None else Some t

-- the numbers of a node and of one to which an edge leads
pub record IsEdge (types : List Placed) (e : ℕ × ℕ) : Type 0 where
  pub caller : Node
  pub target : Node
  pub caller_in : Contains (nodes types) caller
  pub target_in : Contains (nodes types) target
  pub numbers : (caller.number, target.number) ≡ e
  pub leads : edge types caller target ≡ true

-- by caller, and then by target
abbrev pub edge_cmp : ℕ × ℕ → ℕ × ℕ → Ordering
edge_cmp e f = ordering_then (nat_cmp e.0 f.0) (nat_cmp e.1 f.1)

-- some walk has d edges, and none has fewer
pub record IsLeast (es : Edges) (count target m d : ℕ) : Type 0 where
  pub walks : WalkOf es count target m d
  pub least : (k : ℕ) → WalkOf es count target m k → d ≤ k

-- dist is the least number of edges of a walk, where there is a walk
pub record DistIsLeast (es : Edges) (count target m : ℕ) : Type 0 where
  pub found : (d : ℕ) → dist es count target m ≡ Some d → IsLeast es count target m d
  pub none : dist es count target m ≡ None → (k : ℕ) → WalkOf es count target m k → ⊥

-- u is the node of least number to which an edge leads from m and whose distance is one less
pub record IsNext (es : Edges) (count target m u : ℕ) : Type 0 where
  pub steps : ℕ
  pub from' : dist es count target m ≡ Some (steps + 1)
  pub here : dist es count target u ≡ Some steps
  pub leads' : leads es m u ≡ true
  pub least : (v : ℕ) → v < count → leads es m v ≡ true → dist es count target v ≡ Some steps → u ≤ v

-- a class of the chain of d declares the method
pub record IsInChain (types : List Placed) (d : Placed) (c : Node) : Type 0 where
  pub type : Placed
  pub type_in : Contains (chain types d) type
  pub owner : is_type type c.owner ≡ true
  pub node_in : Contains (nodes types) c

-- why a method is selected for d: it is the private resolved one; or a class of the chain declares it and it can override;
-- or it is the one default
pub data IsSelected (types : List Placed) (d : Placed) (a : Node) (s : Signature) (c : Node) : Type 0 where
  IsItself : is_private a.method ≡ true → a ≡ c → IsSelected types d a s c
  IsOverriding : IsInChain types d c → can_override types c a ≡ true → IsSelected types d a s c
  IsDefault : one_default types d s ≡ Some c → IsSelected types d a s c

-- the same where the outcome is a phantom
pub data IsSelectedForPhantom (types : List Placed) (d : Placed) (s : Signature) (c : Node) : Type 0 where
  IsOverridingPhantom : IsInChain types d c → can_override_phantom s c ≡ true → IsSelectedForPhantom types d s c
  IsDefaultForPhantom : one_default types d s ≡ Some c → IsSelectedForPhantom types d s c

-- overriding by its cases: a public or protected method, one of the package, or one of a class between that is overridden
-- and overrides
abbrev pub overrides_by_cases : List Placed → Node → Node → Bool
overrides_by_cases types c a =
    is_candidate c a
    && (overrides_directly c a
    || is_package_private a.method
    && list_any (λ t. list_any (λ b. is_type t b.owner && (can_override types c b && can_override types b a)) (nodes types))
    (between types c.owner a.owner))
