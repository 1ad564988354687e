-- The targets of references, sites and callers against the edges.
use Rattle.std.proofs.Common.{◌≡◌, ℕ, List, [], length, refl, sym, ap, subst, ◌∙◌}
use Rattle.std.specs.Prelude.{◌↔◌, Bool, true, false, cond, ◌&&◌, Some, Contains}
use Rattle.std.specs.List.{list_any}
use Rattle.std.specs.Cmp.{both_ways}
use Rattle.std.proofs.lemmas.Bool.{and_from}
use Rattle.fcg_views.specs.declared.view.Ref.{Ref}
use Rattle.fcg_views.specs.declared.view.Site.{Site}
use Rattle.fcg_analysis.specs.Declarations.{Placed, has_array_owner, is_static, is_instance}
use Rattle.fcg_analysis.specs.Nodes.{Node, nodes}
use Rattle.fcg_analysis.specs.Resolution.{Outcome, Found, Phantom, Failed, resolved}
use Rattle.fcg_analysis.specs.Special.{special}
use Rattle.fcg_analysis.specs.Edges.{Call, VirtualCall, InterfaceCall, SpecialCall, StaticCall, NoCall, call_of, is_found, is_outcome, is_dispatched, is_receiver, meets_dispatch, meets_row, meets_array, meets, edge, edges}
use Rattle.fcg_analysis.specs.Laws.Tables.{edges_in}
use Rattle.fcg_stitch.specs.Targets.{number_where, is_concrete, receiver_target, targets_over, method_of, array_target, call_targets, site_targets, caller_targets}
use Rattle.fcg_analysis.proofs.General.Members.{IsIn, IsIn-from_Contains, Contains-from_IsIn, any_in, in_any, in_flat_map, flat_map_in, and_first, and_second}
use Rattle.fcg_analysis.proofs.ResolvedLaws.{resolved_of}
use Rattle.fcg_analysis.proofs.SpecialLaws.{special_is_instance}
use Rattle.fcg_analysis.proofs.TableLaws.{table_is_edges}
use Rattle.fcg_stitch.proofs.TargetNumbers.{IsNode, IsWithin, number_as, number_within, chosen, chosen_is_node, received, receives, targets_of_dispatched, none_of_others, target_within}

-- ---- outcomes

outcome_found : (b : Node) (o : Outcome) → is_outcome b o ≡ is_found b (method_of o)
outcome_found b (Found m) = refl
outcome_found b Phantom = refl
outcome_found b (Failed cause) = refl

outcome_is_node : (types : List Placed) (r : Ref) → IsNode types (method_of (resolved types r))
outcome_is_node types r m h = at (resolved types r) refl h
  where
    at : (o : Outcome) → resolved types r ≡ o → method_of o ≡ Some m → Contains (nodes types) m
    at (Found a) e k = let same : a ≡ m = cc in subst (Contains (nodes types)) same (Contains-from_IsIn _ a (resolved_of types r a e).0)
    at Phantom e k = absurd (cc)
    at (Failed cause) e k = absurd (cc)

special_is_node : (types : List Placed) (x : Placed) (r : Ref) → IsNode types (special types x r)
special_is_node types x r m e = (special_is_instance types x r m e).0

-- ---- a reference

-- a receiver for which b is selected
abbrev selects : List Placed → Ref → Node → Placed → Bool
selects types r b d = is_receiver types r.owner d && is_found b (chosen types r d)

module _ (types : List Placed) (b : Node) (c : Contains (nodes types) b) where
  pub of_reference : (site : Site) → Contains (targets_over types site.target types) b.number ↔ (meets_dispatch types site b ≡ true)
  of_reference site = (λ h. forth (is_dispatched (resolved types site.target)) refl (IsIn-from_Contains _ _ h), λ h. Contains-from_IsIn _ _ (back h))
    where
      forth : (w : Bool) → is_dispatched (resolved types site.target) ≡ w → IsIn b.number (targets_over types site.target types) → meets_dispatch types site b ≡ true
      forth false e h = absurd (subst (λ ks. IsIn b.number ks) (none_of_others types site.target types e) h)
      forth true e h =
          let d = in_flat_map (receiver_target types site.target) types b.number (subst (λ ks. IsIn b.number ks) (targets_of_dispatched types site.target types e) h) in
          let g = received types site.target d.0 b.number d.2 in
          let t = (number_as types b c is_concrete (chosen types site.target d.0) (chosen_is_node types site.target d.0 e)).0 (Contains-from_IsIn _ _ g.1) in
          and_from (is_dispatched (resolved types site.target) && is_concrete b) (list_any (selects types site.target b) types)
          (and_from (is_dispatched (resolved types site.target)) (is_concrete b) e (and_second (is_found b (chosen types site.target d.0)) (is_concrete b) t))
          (any_in (selects types site.target b) types d.0 d.1
          (and_from (is_receiver types site.target.owner d.0) (is_found b (chosen types site.target d.0)) g.0 (and_first (is_found b (chosen types site.target d.0)) (is_concrete b) t)))

      back : meets_dispatch types site b ≡ true → IsIn b.number (targets_over types site.target types)
      back h =
          let p = and_first (is_dispatched (resolved types site.target) && is_concrete b) (list_any (selects types site.target b) types) h in
          let e = and_first (is_dispatched (resolved types site.target)) (is_concrete b) p in
          let d = in_any (selects types site.target b) types (and_second (is_dispatched (resolved types site.target) && is_concrete b) (list_any (selects types site.target b) types) h) in
          let f = and_second (is_receiver types site.target.owner d.0) (is_found b (chosen types site.target d.0)) d.2 in
          let k = (number_as types b c is_concrete (chosen types site.target d.0) (chosen_is_node types site.target d.0 e)).1
          (and_from (is_found b (chosen types site.target d.0)) (is_concrete b) f (and_second (is_dispatched (resolved types site.target)) (is_concrete b) p)) in
          subst (λ ks. IsIn b.number ks) (sym (targets_of_dispatched types site.target types e))
          (flat_map_in (receiver_target types site.target) types d.0 b.number d.1
          (receives types site.target d.0 b.number (and_first (is_receiver types site.target.owner d.0) (is_found b (chosen types site.target d.0)) d.2) (IsIn-from_Contains _ _ k)))

  -- ---- a site

  nothing : Contains [] b.number ↔ (false ≡ true)
  nothing = (λ h. absurd (IsIn-from_Contains [] b.number h), λ h. absurd (cc))

  assoc : (x y z : Bool) → (x && y && z) ≡ (x && (y && z))
  assoc true y z = refl
  assoc false y z = refl

  by_flag : (r : Ref) (flag : Node → Bool) → Contains (number_where (λ m. is_concrete m && flag m) (method_of (resolved types r))) b.number ↔ ((is_outcome b (resolved types r) && is_concrete b && flag b) ≡ true)
  by_flag r flag =
      let n = number_as types b c (λ m. is_concrete m && flag m) (method_of (resolved types r)) (outcome_is_node types r) in
      let e : (is_outcome b (resolved types r) && is_concrete b && flag b) ≡ (is_found b (method_of (resolved types r)) && (is_concrete b && flag b)) =
      ap (λ v. v && is_concrete b && flag b) (outcome_found b (resolved types r)) ∙ assoc (is_found b (method_of (resolved types r))) (is_concrete b) (flag b) in
      (λ h. e ∙ n.0 h, λ h. n.1 (sym e ∙ h))

  of_array : (site : Site) (k : Call) → Contains (array_target (resolved types site.target) k) b.number ↔ (meets_array types site b k ≡ true)
  of_array site StaticCall = by_flag site.target (λ m. is_static m.method)
  of_array site NoCall = nothing
  of_array site VirtualCall = by_flag site.target (λ m. is_instance m.method)
  of_array site InterfaceCall = by_flag site.target (λ m. is_instance m.method)
  of_array site SpecialCall = by_flag site.target (λ m. is_instance m.method)

  of_call : (a : Node) (site : Site) (k : Call) → Contains (call_targets types a.owner site.target k) b.number ↔ (meets_row types a site b k ≡ true)
  of_call a site VirtualCall = of_reference site
  of_call a site InterfaceCall = of_reference site
  of_call a site SpecialCall = number_as types b c is_concrete (special types a.owner site.target) (special_is_node types a.owner site.target)
  of_call a site StaticCall =
      let n = number_as types b c (λ m. is_static m.method) (method_of (resolved types site.target)) (outcome_is_node types site.target) in
      let e : (is_outcome b (resolved types site.target) && is_static b.method) ≡ (is_found b (method_of (resolved types site.target)) && is_static b.method) =
      ap (λ v. v && is_static b.method) (outcome_found b (resolved types site.target)) in
      (λ h. e ∙ n.0 h, λ h. n.1 (sym e ∙ h))
  of_call a site NoCall = nothing

  pub of_site : (a : Node) (site : Site) → Contains (site_targets types a.owner site) b.number ↔ (meets types a site b ≡ true)
  unfolding site_targets meets
  of_site a site = at (has_array_owner site.target)
    where
      at : (w : Bool) → Contains (cond w (array_target (resolved types site.target) (call_of site.kind)) (call_targets types a.owner site.target (call_of site.kind))) b.number
          ↔ (cond w (meets_array types site b (call_of site.kind)) (meets_row types a site b (call_of site.kind)) ≡ true)
      at true = of_array site (call_of site.kind)
      at false = of_call a site (call_of site.kind)

  -- ---- a caller

  pub of_caller : (a : Node) → Contains (caller_targets types a) b.number ↔ (edge types a b ≡ true)
  unfolding caller_targets edge
  of_caller a = (
    λ h. (let s = in_flat_map (site_targets types a.owner) a.method.sites b.number (IsIn-from_Contains _ _ h) in
        any_in (λ site. meets types a site b) a.method.sites s.0 s.1 ((of_site a s.0).0 (Contains-from_IsIn _ _ s.2))),
    λ h. (let s = in_any (λ site. meets types a site b) a.method.sites h in
        Contains-from_IsIn _ _ (flat_map_in (site_targets types a.owner) a.method.sites s.0 b.number s.1 (IsIn-from_Contains _ _ ((of_site a s.0).1 s.2)))),
  )

-- ---- numbers of nodes

module _ (types : List Placed) where
  array_within : (r : Ref) (k : ℕ) (call : Call) → IsIn k (array_target (resolved types r) call) → IsWithin types k
  array_within r k StaticCall h = number_within types (λ m. is_concrete m && is_static m.method) (method_of (resolved types r)) k (outcome_is_node types r) h
  array_within r k NoCall h = absurd h
  array_within r k VirtualCall h = number_within types (λ m. is_concrete m && is_instance m.method) (method_of (resolved types r)) k (outcome_is_node types r) h
  array_within r k InterfaceCall h = number_within types (λ m. is_concrete m && is_instance m.method) (method_of (resolved types r)) k (outcome_is_node types r) h
  array_within r k SpecialCall h = number_within types (λ m. is_concrete m && is_instance m.method) (method_of (resolved types r)) k (outcome_is_node types r) h

  call_within : (x : Placed) (r : Ref) (k : ℕ) (call : Call) → IsIn k (call_targets types x r call) → IsWithin types k
  call_within x r k VirtualCall h = target_within types r types k h
  call_within x r k InterfaceCall h = target_within types r types k h
  call_within x r k SpecialCall h = number_within types is_concrete (special types x r) k (special_is_node types x r) h
  call_within x r k StaticCall h = number_within types (λ m. is_static m.method) (method_of (resolved types r)) k (outcome_is_node types r) h
  call_within x r k NoCall h = absurd h

  site_within : (x : Placed) (site : Site) (k : ℕ) → IsIn k (site_targets types x site) → IsWithin types k
  unfolding site_targets
  site_within x site k h = at (has_array_owner site.target) h
    where
      at : (w : Bool) → IsIn k (cond w (array_target (resolved types site.target) (call_of site.kind)) (call_targets types x site.target (call_of site.kind))) → IsWithin types k
      at true q = array_within site.target k (call_of site.kind) q
      at false q = call_within x site.target k (call_of site.kind) q

  pub caller_within : (a : Node) (k : ℕ) → IsIn k (caller_targets types a) → IsWithin types k
  unfolding caller_targets
  caller_within a k h = let s = in_flat_map (site_targets types a.owner) a.method.sites k h in site_within a.owner s.0 k s.2

-- ---- a table

pub table_of_callers : (types : List Placed) (leads : ℕ → ℕ → Bool) → ((a b : Node) → Contains (nodes types) a → Contains (nodes types) b → (leads a.number b.number ≡ true) ↔ Contains (caller_targets types a) b.number) → edges_in (length (nodes types)) leads ≡ edges types
table_of_callers types leads h =
    table_is_edges types leads (λ a b c d.
    let t = of_caller types b d a in
    let l = h a b c d in
    both_ways (leads a.number b.number) (edge types a b) (λ e. t.0 (l.0 e)) (λ e. l.1 (t.1 e)))
