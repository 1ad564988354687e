-- Targets of calls, and the row of a caller, while they are found.
use Rattle.std.specs.Prelude.{◌≡◌, ℕ, ◌<◌, ◌≤◌, ◌+◌, ◌==◌, ◌||◌, List, [], ◌∷◌, Bool, false, All, Option, Some, None, IfSome, flat_map, length, slice_get, slice_index_or}
use Rattle.fcg_views.specs.declared.view.Ref.{Ref}
use Rattle.fcg_partial.specs.Parts.{PartShown}
use Rattle.fcg_partial.specs.Views.{graph_of}
use Rattle.fcg_analysis.specs.Declarations.{Placed}
use Rattle.fcg_analysis.specs.Nodes.{Node, nodes}
use Rattle.fcg_analysis.specs.Resolution.{resolved}
use Rattle.fcg_analysis.specs.Edges as rules
use Rattle.fcg_order.specs.Links.{row}
use Rattle.fcg_join.specs.Parts.{types_of, nodes_of}
use Rattle.fcg_join.specs.Outcomes.{GivesOutcome, IfMethod}
use Rattle.fcg_edges.specs.Rows.{Rows, has, any_has}
use Rattle.fcg_stitch.specs.Targets.{targets_over, caller_targets}
use Rattle.fcg_stitch.specs.declared.calls.Call.{Call}
use Rattle.fcg_stitch.specs.declared.calls.Call.TheVariants as kinds
use Rattle.fcg_stitch.specs.declared.states.Targets.{Targets}
use Rattle.fcg_stitch.specs.declared.states.Targets.TheVariants as targets
use Rattle.fcg_stitch.specs.declared.states.RefState.{RefState}
use Rattle.fcg_stitch.specs.Internal.References.{IsReferenceAt}

-- how a site calls, in the code
abbrev pub call_kind : rules.Call → Call
call_kind rules.VirtualCall = kinds.Dispatched
call_kind rules.InterfaceCall = kinds.Dispatched
call_kind rules.SpecialCall = kinds.Special
call_kind rules.StaticCall = kinds.Static
call_kind rules.NoCall = kinds.NoCall

-- the number that was found, if any
abbrev pub listed : Option ℕ → List ℕ
listed None = []
listed (Some k) = k ∷ []

-- ---- Targets, over the lists that there are

abbrev pub targets_have : List (List ℕ) → Targets → ℕ → Bool
targets_have lists targets.Nothing b = false
targets_have lists (targets.One k) b = k == b
targets_have lists (targets.List l) b = has (row lists l) b

-- their numbers are below the count of nodes, and that of lists
abbrev pub AreWithin : ℕ → List (List ℕ) → Targets → Type 0
AreWithin count lists targets.Nothing = Unit {0}
AreWithin count lists (targets.One k) = k < count
AreWithin count lists (targets.List l) = l < length lists

-- they are these nodes
pub record AreTargets (count : ℕ) (lists : List (List ℕ)) (t : Targets) (ks : List ℕ) : Type 0 where
  pub within : AreWithin count lists t
  pub each : (b : ℕ) → targets_have lists t b ≡ has ks b

-- ---- What was found for references

-- what a reference stands for, and where virtual and interface calls with it lead, if that was asked
pub record IsState (parts : List PartShown) (lists : List (List ℕ)) (s : RefState) (reference : Ref) : Type 0 where
  pub outcome : GivesOutcome parts s.outcome (resolved (types_of parts) reference)
  pub range : IfMethod s.outcome (λ m. m.0 < length (nodes_of parts))
  pub targets : IfSome s.targets (λ t. AreTargets (length (nodes_of parts)) lists t (targets_over (types_of parts) reference (types_of parts)))

-- what is known of the reference r of the part i
abbrev pub state_at : List (List (Option RefState)) → ℕ → ℕ → Option RefState
state_at states i r = slice_index_or (slice_index_or states i []) r None

-- there is a place for each reference of each part
pub record HavePlaces (parts : List PartShown) (states : List (List (Option RefState))) : Type 0 where
  pub long : length states ≡ length parts
  pub each : (i : ℕ) (p : PartShown) → slice_get parts i ≡ Some p → length (slice_index_or states i []) ≡ length (graph_of p.views).refs

pub record AreStates (parts : List PartShown) (lists : List (List ℕ)) (states : List (List (Option RefState))) : Type 0 where
  pub places : HavePlaces parts states
  pub each : (i r : ℕ) (s : RefState) (reference : Ref) → state_at states i r ≡ Some s → IsReferenceAt parts i r reference → IsState parts lists s reference

-- the rows of callers stand, and the lists too; there may be more lists
pub record HaveMoreLists (old new : Rows) : Type 0 where
  pub count : new.count ≡ old.count
  pub callers : length new.targets ≡ length old.targets
  pub more : length old.lists ≤ length new.lists
  pub lists : (l : ℕ) → l < length old.lists → row new.lists l ≡ row old.lists l
  pub leads : (a b : ℕ) → a < length old.targets → Rattle.fcg_edges.specs.Rows.leads new a b ≡ Rattle.fcg_edges.specs.Rows.leads old a b

-- ---- The row of a caller

-- one of the targets is b, or one of the lists has b
abbrev pub row_has : List (List ℕ) → List ℕ → List ℕ → ℕ → Bool
row_has lists ts uses b = has ts b || any_has lists uses b

pub record IsRowWithin (r : Rows) (ts ls : List ℕ) : Type 0 where
  pub targets : All (λ b. b < r.count) ts
  pub uses : All (λ l. l < length r.lists) ls

-- ---- Callers

-- where the sites of the node of a number lead
abbrev pub targets_of_node : List Placed → Option Node → List ℕ
targets_of_node types None = []
targets_of_node types (Some a) = caller_targets types a

unfoldable pub leads_to : List Placed → ℕ → ℕ → Bool
leads_to types a b = has (targets_of_node types (slice_get (nodes types) a)) b

-- of some nodes the numbers of their first sites, the first of which is n
abbrev pub first_sites_from : ℕ → List Node → List ℕ
first_sites_from n [] = []
first_sites_from n (m ∷ ms) = n ∷ first_sites_from (n + length m.method.sites) ms

abbrev pub first_sites : List Node → List ℕ
first_sites ms = first_sites_from 0 ms

abbrev pub statuses_of_nodes : List Placed → List Node → List rules.Status
statuses_of_nodes types ms = flat_map (rules.statuses_of types) ms
