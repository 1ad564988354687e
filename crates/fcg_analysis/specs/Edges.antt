-- The edges of class hierarchy analysis (Dean, Grove and Chambers, ECOOP 1995), and what becomes of each site
-- (docs/analysis.md, Edges).
use Rattle.std.specs.Prelude.{ℕ, List, Bool, true, false, not, ◌&&◌, Option, Some, None, filter, map, flat_map, count_by, if◌then◌else◌}
use Rattle.std.specs.List.{list_any}
use Rattle.fcg_views.specs.declared.view.SiteKind.{SiteKind}
use Rattle.fcg_views.specs.declared.view.SiteKind.TheVariants.{Virtual, Interface, Special, Static, New, StaticField, Handle}
use Rattle.fcg_views.specs.declared.view.HandleKind.{HandleKind}
use Rattle.fcg_views.specs.declared.view.HandleKind.TheVariants.{K5, K6, K7, K8, K9}
use Rattle.fcg_views.specs.declared.view.Site.{Site}
use Rattle.fcg_analysis.specs.Declarations.{Placed, signature_in, is_class, is_abstract_type, is_static, is_instance, is_abstract, has_array_owner}
use Rattle.fcg_analysis.specs.Types.{is_below}
use Rattle.fcg_analysis.specs.Nodes.{Node, nodes, is_node}
use Rattle.fcg_analysis.specs.Resolution.{Outcome, Found, Phantom, Failed, Cause, resolved}
use Rattle.fcg_analysis.specs.Selection.{selected}
use Rattle.fcg_analysis.specs.Special.{special}

-- how a site calls, a handle site as the kind that it counts as
pub data Call : Type 0 where
  VirtualCall : Call
  InterfaceCall : Call
  SpecialCall : Call
  StaticCall : Call
  NoCall : Call

abbrev pub handle_call : HandleKind → Call
handle_call K5 = VirtualCall
handle_call K6 = StaticCall
handle_call K7 = SpecialCall
handle_call K8 = SpecialCall
handle_call K9 = InterfaceCall

abbrev pub call_of : SiteKind → Call
call_of Virtual = VirtualCall
call_of Interface = InterfaceCall
call_of Special = SpecialCall
call_of Static = StaticCall
call_of New = NoCall
call_of StaticField = NoCall
call_of (Handle k) = handle_call k

-- ---- Edge

abbrev pub is_found : Node → Option Node → Bool
is_found b None = false
is_found b (Some m) = is_node b m

abbrev pub is_outcome : Node → Outcome → Bool
is_outcome b (Found m) = is_node b m
is_outcome b Phantom = false
is_outcome b (Failed cause) = false

-- an instance method or Phantom
abbrev pub is_dispatched : Outcome → Bool
is_dispatched (Found m) = is_instance m.method
is_dispatched Phantom = true
is_dispatched (Failed cause) = false

-- a known class, not abstract, at or below the name of the site's owner
abbrev pub is_receiver : List Placed → List ℕ → Placed → Bool
is_receiver types n d = is_class d && not (is_abstract_type d) && is_below types d n

abbrev pub meets_static : List Placed → Site → Node → Bool
meets_static types site b = is_outcome b (resolved types site.target) && is_static b.method

abbrev pub meets_special : List Placed → Placed → Site → Node → Bool
meets_special types x site b = is_found b (special types x site.target) && not (is_abstract b.method)

abbrev pub meets_dispatch : List Placed → Site → Node → Bool
meets_dispatch types site b =
    let outcome = resolved types site.target in
    is_dispatched outcome && not (is_abstract b.method)
    && list_any (λ d. is_receiver types site.target.owner d && is_found b (selected types d outcome (signature_in site.target))) types

-- the table, by how the site calls; only a special call looks at the caller, for its class
abbrev pub meets_row : List Placed → Node → Site → Node → Call → Bool
meets_row types a site b VirtualCall = meets_dispatch types site b
meets_row types a site b InterfaceCall = meets_dispatch types site b
meets_row types a site b SpecialCall = meets_special types a.owner site b
meets_row types a site b StaticCall = meets_static types site b
meets_row types a site b NoCall = false

-- a site with an array owner: its outcome is Object's method or none, and no receiver is asked for, and no special search
abbrev pub meets_array : List Placed → Site → Node → Call → Bool
meets_array types site b StaticCall = is_outcome b (resolved types site.target) && not (is_abstract b.method) && is_static b.method
meets_array types site b NoCall = false
meets_array types site b call = is_outcome b (resolved types site.target) && not (is_abstract b.method) && is_instance b.method

unfoldable pub meets : List Placed → Node → Site → Node → Bool
meets types a site b =
    if has_array_owner site.target then meets_array types site b (call_of site.kind)
    else meets_row types a site b (call_of site.kind)

-- a site of a and the node b meet a row of the table
unfoldable pub edge : List Placed → Node → Node → Bool
edge types a b = list_any (λ site. meets types a site b) a.method.sites

-- all edges, by caller and then by target
unfoldable pub edges : List Placed → List (ℕ × ℕ)
edges types =
    let all = nodes types in
    flat_map (λ a. map (λ b. (a.number, b.number)) (filter (λ b. edge types a b) all)) all

-- ---- Site status

pub data Status : Type 0 where
  IsNoCall : Status
  IsMethod : Status
  IsPhantom : Status
  IsFailed : Cause → Status

-- a site that calls has its outcome
abbrev pub status_of_outcome : Outcome → Status
status_of_outcome (Found m) = IsMethod
status_of_outcome Phantom = IsPhantom
status_of_outcome (Failed cause) = IsFailed cause

abbrev pub status_of_call : Outcome → Call → Status
status_of_call outcome NoCall = IsNoCall
status_of_call outcome call = status_of_outcome outcome

unfoldable pub status : List Placed → Site → Status
status types site = status_of_call (resolved types site.target) (call_of site.kind)

-- of the sites of a node, in their order
abbrev pub statuses_of : List Placed → Node → List Status
statuses_of types m = map (status types) m.method.sites

-- of the sites of all nodes
unfoldable pub statuses : List Placed → List Status
statuses types = flat_map (statuses_of types) (nodes types)

abbrev pub is_phantom_status : Status → Bool
is_phantom_status IsPhantom = true
is_phantom_status s = false

abbrev pub is_failed_status : Status → Bool
is_failed_status (IsFailed cause) = true
is_failed_status s = false

abbrev pub phantoms : List Placed → ℕ
phantoms types = count_by is_phantom_status (statuses types)

abbrev pub failed : List Placed → ℕ
failed types = count_by is_failed_status (statuses types)
