-- Where a site leads, and what becomes of it, by how it calls.
use Rattle.std.proofs.Common.{◌≡◌, List, [], ◌∷◌, length, refl, ap, ◌∙◌}
use Rattle.std.specs.Prelude.{Bool, true, false, cond, filter}
use Rattle.fcg_views.specs.declared.view.Site.{Site}
use Rattle.fcg_analysis.specs.Declarations.{Placed, has_array_owner}
use Rattle.fcg_analysis.specs.Resolution.{Outcome, resolved}
use Rattle.fcg_analysis.specs.Edges as rules
use Rattle.fcg_stitch.specs.Limits.{is_call, calls}
use Rattle.fcg_stitch.specs.Targets.{targets_over, array_target, call_targets, site_targets}
use Rattle.fcg_stitch.specs.declared.calls.Call.TheVariants as kinds
use Rattle.fcg_stitch.specs.Internal.Rows.{call_kind}

targets_are : (types : List Placed) (x : Placed) (site : Site) (w : Bool) → has_array_owner site.target ≡ w
    → site_targets types x site ≡ cond w (array_target (resolved types site.target) (rules.call_of site.kind)) (call_targets types x site.target (rules.call_of site.kind))
unfolding site_targets
targets_are types x site w e = ap (λ v. cond v (array_target (resolved types site.target) (rules.call_of site.kind)) (call_targets types x site.target (rules.call_of site.kind))) e

pub targets_of_array : (types : List Placed) (x : Placed) (site : Site) → has_array_owner site.target ≡ true → site_targets types x site ≡ array_target (resolved types site.target) (rules.call_of site.kind)
targets_of_array types x site e = targets_are types x site true e

pub targets_of_call : (types : List Placed) (x : Placed) (site : Site) → has_array_owner site.target ≡ false → site_targets types x site ≡ call_targets types x site.target (rules.call_of site.kind)
targets_of_call types x site e = targets_are types x site false e

pub targets_of_dispatch : (types : List Placed) (x : Placed) (site : Site) → has_array_owner site.target ≡ false → kinds.Dispatched ≡ call_kind (rules.call_of site.kind) → site_targets types x site ≡ targets_over types site.target types
targets_of_dispatch types x site e k = targets_of_call types x site e ∙ at (rules.call_of site.kind) k
  where
    at : (c : rules.Call) → kinds.Dispatched ≡ call_kind c → call_targets types x site.target c ≡ targets_over types site.target types
    at rules.VirtualCall d = refl
    at rules.InterfaceCall d = refl
    at rules.SpecialCall d = absurd (cc)
    at rules.StaticCall d = absurd (cc)
    at rules.NoCall d = absurd (cc)

pub targets_of_none : (types : List Placed) (x : Placed) (site : Site) → kinds.NoCall ≡ call_kind (rules.call_of site.kind) → site_targets types x site ≡ []
targets_of_none types x site k = targets_are types x site (has_array_owner site.target) refl ∙ at (has_array_owner site.target) (rules.call_of site.kind) k
  where
    none : (c : rules.Call) → kinds.NoCall ≡ call_kind c → c ≡ rules.NoCall
    none rules.VirtualCall d = absurd (cc)
    none rules.InterfaceCall d = absurd (cc)
    none rules.SpecialCall d = absurd (cc)
    none rules.StaticCall d = absurd (cc)
    none rules.NoCall d = refl

    empty : (w : Bool) → cond w (array_target (resolved types site.target) rules.NoCall) (call_targets types x site.target rules.NoCall) ≡ []
    empty true = refl
    empty false = refl

    at : (w : Bool) (c : rules.Call) → kinds.NoCall ≡ call_kind c → cond w (array_target (resolved types site.target) c) (call_targets types x site.target c) ≡ []
    at w c d = ap (λ b. cond w (array_target (resolved types site.target) b) (call_targets types x site.target b)) (none c d) ∙ empty w

-- ---- what becomes of it

status_by : (o : Outcome) (c : rules.Call) → (call_kind c ≡ kinds.NoCall → ⊥) → rules.status_of_call o c ≡ rules.status_of_outcome o
status_by o rules.VirtualCall n = refl
status_by o rules.InterfaceCall n = refl
status_by o rules.SpecialCall n = refl
status_by o rules.StaticCall n = refl
status_by o rules.NoCall n = absurd (n refl)

status_by_none : (o : Outcome) (c : rules.Call) → kinds.NoCall ≡ call_kind c → rules.status_of_call o c ≡ rules.IsNoCall
status_by_none o rules.VirtualCall d = absurd (cc)
status_by_none o rules.InterfaceCall d = absurd (cc)
status_by_none o rules.SpecialCall d = absurd (cc)
status_by_none o rules.StaticCall d = absurd (cc)
status_by_none o rules.NoCall d = refl

pub status_of_call_site : (types : List Placed) (site : Site) → (call_kind (rules.call_of site.kind) ≡ kinds.NoCall → ⊥) → rules.status types site ≡ rules.status_of_outcome (resolved types site.target)
unfolding rules.status
status_of_call_site types site n = status_by (resolved types site.target) (rules.call_of site.kind) n

pub status_of_no_call : (types : List Placed) (site : Site) → kinds.NoCall ≡ call_kind (rules.call_of site.kind) → rules.status types site ≡ rules.IsNoCall
unfolding rules.status
status_of_no_call types site k = status_by_none (resolved types site.target) (rules.call_of site.kind) k

is_call_by : (c : rules.Call) → (call_kind c ≡ kinds.NoCall → ⊥) → is_call c ≡ true
is_call_by rules.VirtualCall n = refl
is_call_by rules.InterfaceCall n = refl
is_call_by rules.SpecialCall n = refl
is_call_by rules.StaticCall n = refl
is_call_by rules.NoCall n = absurd (n refl)

pub calls_once : (site : Site) → (call_kind (rules.call_of site.kind) ≡ kinds.NoCall → ⊥) → length (filter calls (site ∷ [])) ≡ 1
calls_once site n = ap (λ b. length (cond b (site ∷ []) [])) (is_call_by (rules.call_of site.kind) n)
