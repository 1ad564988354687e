-- The sites of a method, one after another.
use Rattle.std.proofs.Common.{◌≡◌, ℕ, ◌≤◌, ◌+◌, List, [], ◌∷◌, length, take, sym, ap, subst, ◌∙◌, arith}
use Rattle.std.specs.Prelude.{Some, slice_get, filter, map, flat_map}
use Rattle.std.proofs.lemmas.List.{take_all}
use Rattle.fcg_views.specs.declared.view.Site.{Site}
use Rattle.fcg_partial.specs.Parts.{PartShown}
use Rattle.fcg_partial.specs.declared.row.SiteRow.{SiteRow}
use Rattle.fcg_analysis.specs.Declarations.{Placed}
use Rattle.fcg_analysis.specs.Nodes.{Node}
use Rattle.fcg_analysis.specs.Edges as rules
use Rattle.fcg_join.specs.declared.id.TypeId.{TypeId}
use Rattle.fcg_join.specs.Joined.{HasType}
use Rattle.fcg_edges.specs.Rows.{Rows}
use Rattle.fcg_stitch.specs.Limits.{calls}
use Rattle.fcg_stitch.specs.Targets.{site_targets, caller_targets}
use Rattle.fcg_stitch.specs.declared.calls.Call.{Call}
use Rattle.fcg_stitch.specs.declared.callers.Work.{Work}
use Rattle.fcg_stitch.specs.declared.place.MethodPlace.{MethodPlace}
use Rattle.fcg_stitch.specs.Internal.References.{StandsAt, IsReferenceAt, IsSiteRow}
use Rattle.fcg_stitch.specs.Internal.Rows.{call_kind}
use Rattle.fcg_stitch.specs.Internal.Calling.{CallsAs, AddsTargets, AddsStatuses}
use Rattle.fcg_stitch.proofs.CallerRows.{map_one_more, flat_map_one_more, count_one_more, count_first, adds_more, adds_more_statuses}

pub stands_in_given : (parts given : List PartShown) (at : MethodPlace) (n : Node) → given ≡ parts → StandsAt parts at n.method → StandsAt given at n.method
stands_in_given parts given at n e h = subst (λ (ps : List PartShown). StandsAt ps at n.method) (sym e) h

-- the site of a row
pub calls_as : (parts given : List PartShown) (caller : TypeId) (call : Call) (i : ℕ) (row : SiteRow) (x : Placed) (s : Site) → given ≡ parts
    → HasType parts caller x → call ≡ call_kind (rules.call_of row.kind) → IsSiteRow given i row s → CallsAs parts (record { caller = caller; call = call; part = i; reference = row.reference }) x s
calls_as parts given caller call i row x s e c k r = record {
  class = c;
  call = k ∙ ap (λ kind. call_kind (rules.call_of kind)) r.kind;
  reference = subst (λ (ps : List PartShown). IsReferenceAt ps i row.reference s.target) e r.reference;
}

-- ---- one site more

module _ (types : List Placed) (n : Node) (k : ℕ) (site : Site) (e : slice_get n.method.sites k ≡ Some site) where
  pub one_site_leads : (r s t : Rows) (u v w : Work) → AddsTargets r s u v (flat_map (site_targets types n.owner) (take k n.method.sites)) → AddsTargets s t v w (site_targets types n.owner site)
      → AddsTargets r t u w (flat_map (site_targets types n.owner) (take (k + 1) n.method.sites))
  one_site_leads r s t u v w h g =
      subst (λ ks. AddsTargets r t u w ks) (sym (flat_map_one_more (site_targets types n.owner) n.method.sites k site e))
      (adds_more r s t u v w (flat_map (site_targets types n.owner) (take k n.method.sites)) (site_targets types n.owner site) h g)

  pub one_site_status : (u v w : Work) → AddsStatuses u v (map (rules.status types) (take k n.method.sites)) → AddsStatuses v w (rules.status types site ∷ [])
      → AddsStatuses u w (map (rules.status types) (take (k + 1) n.method.sites))
  one_site_status u v w h g =
      subst (λ ss. AddsStatuses u w ss) (sym (map_one_more (rules.status types) n.method.sites k site e))
      (adds_more_statuses u v w (map (rules.status types) (take k n.method.sites)) (rules.status types site ∷ []) h g)

  pub one_site_cost : (a b d : ℕ) → b ≤ a + length (filter calls (take k n.method.sites)) → d ≤ b + length (filter calls (site ∷ [])) → d ≤ a + length (filter calls (take (k + 1) n.method.sites))
  one_site_cost a b d h g = let c = count_one_more calls n.method.sites k site e in omega arith

-- the first sites cost no more than all
pub first_sites_cost : (n : Node) (k : ℕ) (a d : ℕ) → d ≤ a + length (filter calls (take k n.method.sites)) → d ≤ a + length (filter calls n.method.sites)
first_sites_cost n k a d h = let c = count_first calls n.method.sites k in omega arith

-- ---- all sites

pub all_sites_lead : (types : List Placed) (n : Node) (k : ℕ) → length n.method.sites ≤ k → flat_map (site_targets types n.owner) (take k n.method.sites) ≡ caller_targets types n
unfolding caller_targets
all_sites_lead types n k l = ap (flat_map (site_targets types n.owner)) (take_all k n.method.sites l)

pub all_sites_status : (types : List Placed) (n : Node) (k : ℕ) → length n.method.sites ≤ k → map (rules.status types) (take k n.method.sites) ≡ rules.statuses_of types n
all_sites_status types n k l = ap (map (rules.status types)) (take_all k n.method.sites l)
