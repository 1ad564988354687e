-- The numbers of the nodes to which sites lead, site by site and receiver by receiver (docs/analysis.md, Edges).
use Rattle.std.specs.Prelude.{ℕ, List, [], ◌∷◌, Bool, not, ◌&&◌, Option, Some, None, flat_map, if◌then◌else◌}
use Rattle.fcg_views.specs.declared.view.Ref.{Ref}
use Rattle.fcg_views.specs.declared.view.Site.{Site}
use Rattle.fcg_analysis.specs.Declarations.{Placed, signature_in, has_array_owner, is_static, is_instance, is_abstract}
use Rattle.fcg_analysis.specs.Nodes.{Node}
use Rattle.fcg_analysis.specs.Resolution.{Outcome, Found, Phantom, Failed, resolved}
use Rattle.fcg_analysis.specs.Selection.{selected}
use Rattle.fcg_analysis.specs.Special.{special}
use Rattle.fcg_analysis.specs.Edges.{Call, VirtualCall, InterfaceCall, SpecialCall, StaticCall, NoCall, call_of, is_dispatched, is_receiver}

-- the number of a method that passes
abbrev pub number_where : (Node → Bool) → Option Node → List ℕ
number_where test None = []
number_where test (Some m) = if test m then m.number ∷ [] else []

abbrev pub is_concrete : Node → Bool
is_concrete m = not (is_abstract m.method)

-- ---- A virtual or interface call

-- what is selected for a type, where that is a receiver
abbrev pub receiver_target : List Placed → Ref → Placed → List ℕ
receiver_target types r d =
    if is_receiver types r.owner d then number_where is_concrete (selected types d (resolved types r) (signature_in r)) else []

-- what is selected for the receivers among these types, one after another; nothing, where the outcome is static or failed
unfoldable pub targets_over : List Placed → Ref → List Placed → List ℕ
targets_over types r ds = if is_dispatched (resolved types r) then flat_map (receiver_target types r) ds else []

-- ---- A site, and a caller

abbrev pub method_of : Outcome → Option Node
method_of (Found m) = Some m
method_of Phantom = None
method_of (Failed cause) = None

-- where a site with an array owner leads
abbrev pub array_target : Outcome → Call → List ℕ
array_target outcome StaticCall = number_where (λ m. is_concrete m && is_static m.method) (method_of outcome)
array_target outcome NoCall = []
array_target outcome call = number_where (λ m. is_concrete m && is_instance m.method) (method_of outcome)

-- where another site in the class x leads
abbrev pub call_targets : List Placed → Placed → Ref → Call → List ℕ
call_targets types x r VirtualCall = targets_over types r types
call_targets types x r InterfaceCall = targets_over types r types
call_targets types x r SpecialCall = number_where is_concrete (special types x r)
call_targets types x r StaticCall = number_where (λ m. is_static m.method) (method_of (resolved types r))
call_targets types x r NoCall = []

unfoldable pub site_targets : List Placed → Placed → Site → List ℕ
site_targets types x site =
    if has_array_owner site.target then array_target (resolved types site.target) (call_of site.kind)
    else call_targets types x site.target (call_of site.kind)

-- where the sites of a caller lead, site after site; a number stands there once for each way
unfoldable pub caller_targets : List Placed → Node → List ℕ
caller_targets types a = flat_map (site_targets types a.owner) a.method.sites
