-- Which methods a site leads to.
use Rattle.std.proofs.Common.{◌≡◌, List, refl, sym, ap, subst, ◌∙◌, inl, inr}
use Rattle.std.specs.Prelude.{◌↔◌, Bool, true, false, not, cond, ◌&&◌, ◌⊎◌, Option, Some, None, Contains, option_and_then}
use Rattle.std.specs.List.{list_any}
use Rattle.std.proofs.lemmas.Bool.{and_from, not-true}
use Rattle.fcg_views.specs.declared.view.Ref.{Ref}
use Rattle.fcg_views.specs.declared.view.Site.{Site}
use Rattle.fcg_analysis.specs.Declarations.{Placed, signature_in, has_signature, has_array_owner, is_static, is_instance, is_abstract}
use Rattle.fcg_analysis.specs.Nodes.{Node, nodes, is_node}
use Rattle.fcg_analysis.specs.Resolution.{Outcome, Found, Phantom, Failed, Cause, resolved}
use Rattle.fcg_analysis.specs.Selection.{selected}
use Rattle.fcg_analysis.specs.Special.{special, special_init, is_init, goes_on, found_from, search_start}
use Rattle.fcg_analysis.specs.Edges.{Call, VirtualCall, InterfaceCall, SpecialCall, StaticCall, NoCall, call_of, is_found, is_outcome, is_dispatched, is_receiver, meets_special, meets_dispatch, meets_row, meets_array, meets, IsNoCall, IsFailed, status_of_outcome, status_of_call, status}
use Rattle.fcg_analysis.specs.Laws.Searches.{HasReceiver}
use Rattle.fcg_analysis.proofs.General.Members.{IsIn-from_Contains, Contains-from_IsIn, any_in, in_any, and_first, and_second}
use Rattle.fcg_analysis.proofs.NodeMembers.{one_node}
use Rattle.fcg_analysis.proofs.ResolvedLaws.{resolved_of}
use Rattle.fcg_analysis.proofs.SearchLaws.{IsInstanceOf, selected_is_instance, phantom_is_instance}
use Rattle.fcg_analysis.proofs.SpecialLaws.{special_is_instance}

-- by the kind of the owner and of the call
meets_is : (types : List Placed) (a b : Node) (site : Site) (w : Bool) (c : Call) → has_array_owner site.target ≡ w → call_of site.kind ≡ c → meets types a site b ≡ cond w (meets_array types site b c) (meets_row types a site b c)
unfolding meets
meets_is types a b site w c e f =
    ap (λ v. cond v (meets_array types site b (call_of site.kind)) (meets_row types a site b (call_of site.kind))) e
    ∙ ap (λ k. cond w (meets_array types site b k) (meets_row types a site b k)) f

-- ---- no call, and no outcome

not_no_call : (o : Outcome) → status_of_outcome o ≡ IsNoCall → ⊥
not_no_call (Found m) h = cc
not_no_call Phantom h = cc
not_no_call (Failed cause) h = cc

pub none_without_call : (types : List Placed) (a b : Node) (site : Site) → status types site ≡ IsNoCall → meets types a site b ≡ false
unfolding status
none_without_call types a b site h = at (call_of site.kind) refl h
  where
    neither : (w : Bool) → cond w false false ≡ false
    neither true = refl
    neither false = refl

    at : (c : Call) → call_of site.kind ≡ c → status_of_call (resolved types site.target) c ≡ IsNoCall → meets types a site b ≡ false
    at NoCall e k = meets_is types a b site (has_array_owner site.target) NoCall refl e ∙ neither (has_array_owner site.target)
    at VirtualCall e k = absurd (not_no_call (resolved types site.target) k)
    at InterfaceCall e k = absurd (not_no_call (resolved types site.target) k)
    at SpecialCall e k = absurd (not_no_call (resolved types site.target) k)
    at StaticCall e k = absurd (not_no_call (resolved types site.target) k)

failed_is : (o : Outcome) (cause : Cause) → status_of_outcome o ≡ IsFailed cause → o ≡ Failed cause
failed_is (Found m) cause h = absurd (cc)
failed_is Phantom cause h = absurd (cc)
failed_is (Failed other) cause h = let same : other ≡ cause = cc in ap Failed same

status_failed : (types : List Placed) (site : Site) (cause : Cause) → status types site ≡ IsFailed cause → resolved types site.target ≡ Failed cause
unfolding status
status_failed types site cause h = at (call_of site.kind) h
  where
    at : (c : Call) → status_of_call (resolved types site.target) c ≡ IsFailed cause → resolved types site.target ≡ Failed cause
    at NoCall k = absurd (cc)
    at VirtualCall k = failed_is (resolved types site.target) cause k
    at InterfaceCall k = failed_is (resolved types site.target) cause k
    at SpecialCall k = failed_is (resolved types site.target) cause k
    at StaticCall k = failed_is (resolved types site.target) cause k

special_failed : (types : List Placed) (x : Placed) (r : Ref) (cause : Cause) → resolved types r ≡ Failed cause → special types x r ≡ None
unfolding special
special_failed types x r cause e =
    ap (λ o. cond (not (goes_on o)) None (cond (is_init r) (special_init r o) (option_and_then (found_from types (signature_in r)) (search_start types x r)))) e

array_failed : (types : List Placed) (site : Site) (b : Node) (cause : Cause) (c : Call) → resolved types site.target ≡ Failed cause → meets_array types site b c ≡ false
array_failed types site b cause StaticCall e = ap (λ o. is_outcome b o && not (is_abstract b.method) && is_static b.method) e
array_failed types site b cause NoCall e = refl
array_failed types site b cause VirtualCall e = ap (λ o. is_outcome b o && not (is_abstract b.method) && is_instance b.method) e
array_failed types site b cause InterfaceCall e = ap (λ o. is_outcome b o && not (is_abstract b.method) && is_instance b.method) e
array_failed types site b cause SpecialCall e = ap (λ o. is_outcome b o && not (is_abstract b.method) && is_instance b.method) e

dispatch_failed : (types : List Placed) (site : Site) (b : Node) (cause : Cause) → resolved types site.target ≡ Failed cause → meets_dispatch types site b ≡ false
dispatch_failed types site b cause e =
    ap (λ o. is_dispatched o && not (is_abstract b.method) && list_any (λ d. is_receiver types site.target.owner d && is_found b (selected types d o (signature_in site.target))) types) e

row_failed : (types : List Placed) (a : Node) (site : Site) (b : Node) (cause : Cause) (c : Call) → resolved types site.target ≡ Failed cause → meets_row types a site b c ≡ false
row_failed types a site b cause VirtualCall e = dispatch_failed types site b cause e
row_failed types a site b cause InterfaceCall e = dispatch_failed types site b cause e
row_failed types a site b cause SpecialCall e = ap (λ o. is_found b o && not (is_abstract b.method)) (special_failed types a.owner site.target cause e)
row_failed types a site b cause StaticCall e = ap (λ o. is_outcome b o && is_static b.method) e
row_failed types a site b cause NoCall e = refl

pub none_of_failed : (types : List Placed) (a b : Node) (site : Site) (cause : Cause) → status types site ≡ IsFailed cause → meets types a site b ≡ false
none_of_failed types a b site cause h = at (has_array_owner site.target) refl
  where
    at : (w : Bool) → has_array_owner site.target ≡ w → meets types a site b ≡ false
    at true e = meets_is types a b site true (call_of site.kind) e refl ∙ array_failed types site b cause (call_of site.kind) (status_failed types site cause h)
    at false e = meets_is types a b site false (call_of site.kind) e refl ∙ row_failed types a site b cause (call_of site.kind) (status_failed types site cause h)

-- ---- what edges depend on

row_of_class : (types : List Placed) (a other : Node) (site : Site) (b : Node) (c : Call) → a.owner ≡ other.owner → meets_row types a site b c ≡ meets_row types other site b c
row_of_class types a other site b VirtualCall e = refl
row_of_class types a other site b InterfaceCall e = refl
row_of_class types a other site b SpecialCall e = ap (λ x. meets_special types x site b) e
row_of_class types a other site b StaticCall e = refl
row_of_class types a other site b NoCall e = refl

pub meets_of_class : (types : List Placed) (a other b : Node) (site : Site) → a.owner ≡ other.owner → meets types a site b ≡ meets types other site b
unfolding meets
meets_of_class types a other b site e =
    ap (λ v. cond (has_array_owner site.target) (meets_array types site b (call_of site.kind)) v) (row_of_class types a other site b (call_of site.kind) e)

array_of_target : (types : List Placed) (site other : Site) (b : Node) (c : Call) → site.target ≡ other.target → meets_array types site b c ≡ meets_array types other b c
array_of_target types site other b StaticCall e = ap (λ r. is_outcome b (resolved types r) && not (is_abstract b.method) && is_static b.method) e
array_of_target types site other b NoCall e = refl
array_of_target types site other b VirtualCall e = ap (λ r. is_outcome b (resolved types r) && not (is_abstract b.method) && is_instance b.method) e
array_of_target types site other b InterfaceCall e = ap (λ r. is_outcome b (resolved types r) && not (is_abstract b.method) && is_instance b.method) e
array_of_target types site other b SpecialCall e = ap (λ r. is_outcome b (resolved types r) && not (is_abstract b.method) && is_instance b.method) e

dispatch_of_target : (types : List Placed) (site other : Site) (b : Node) → site.target ≡ other.target → meets_dispatch types site b ≡ meets_dispatch types other b
dispatch_of_target types site other b e =
    ap (λ r. is_dispatched (resolved types r) && not (is_abstract b.method) && list_any (λ d. is_receiver types r.owner d && is_found b (selected types d (resolved types r) (signature_in r))) types) e

row_of_target : (types : List Placed) (a : Node) (site other : Site) (b : Node) (c : Call) → site.target ≡ other.target → meets_row types a site b c ≡ meets_row types a other b c
row_of_target types a site other b VirtualCall e = dispatch_of_target types site other b e
row_of_target types a site other b InterfaceCall e = dispatch_of_target types site other b e
row_of_target types a site other b SpecialCall e = ap (λ r. is_found b (special types a.owner r) && not (is_abstract b.method)) e
row_of_target types a site other b StaticCall e = ap (λ r. is_outcome b (resolved types r) && is_static b.method) e
row_of_target types a site other b NoCall e = refl

pub meets_of_kind : (types : List Placed) (a b : Node) (site other : Site) → call_of site.kind ≡ call_of other.kind → site.target ≡ other.target → meets types a site b ≡ meets types a other b
meets_of_kind types a b site other k e =
    meets_is types a b site (has_array_owner other.target) (call_of other.kind) (ap has_array_owner e) k
    ∙ ap (λ v. cond (has_array_owner other.target) v (meets_row types a site b (call_of other.kind))) (array_of_target types site other b (call_of other.kind) e)
    ∙ ap (λ v. cond (has_array_owner other.target) (meets_array types other b (call_of other.kind)) v) (row_of_target types a site other b (call_of other.kind) e)
    ∙ sym (meets_is types a b other (has_array_owner other.target) (call_of other.kind) refl refl)

-- ---- the methods to which sites lead

-- the node that is found
record IsGiven (o : Option Node) (b : Node) : Type 0 where
  node : Node
  given : o ≡ Some node
  number : is_node b node ≡ true

given_by : (o : Option Node) (b : Node) → is_found b o ≡ true → IsGiven o b
given_by None b h = absurd (cc)
given_by (Some m) b h = record { node = m; given = refl; number = h }

-- of a number that a node of the signature has
instance_given : (types : List Placed) (r : Ref) (o : Option Node) (b : Node) → Contains (nodes types) b → ((m : Node) → o ≡ Some m → IsInstanceOf types (signature_in r) m) → is_found b o ≡ true → IsInstanceOf types (signature_in r) b
instance_given types r o b c i h =
    let g = given_by o b h in
    let k = i g.node g.given in
    subst (IsInstanceOf types (signature_in r)) (sym (one_node types b g.node c k.0 g.number)) k

pub dispatched_is_instance : (types : List Placed) (d : Placed) (r : Ref) (m : Node) → is_dispatched (resolved types r) ≡ true → selected types d (resolved types r) (signature_in r) ≡ Some m → IsInstanceOf types (signature_in r) m
dispatched_is_instance types d r m h k = at (resolved types r) refl h k
  where
    at : (o : Outcome) → resolved types r ≡ o → is_dispatched o ≡ true → selected types d o (signature_in r) ≡ Some m → IsInstanceOf types (signature_in r) m
    at (Found a) e i s = let n = resolved_of types r a e in selected_is_instance types d a m (signature_in r) (Contains-from_IsIn _ a n.0) i n.1 s
    at Phantom e i s = phantom_is_instance types d (signature_in r) m s
    at (Failed cause) e i s = absurd (cc)

-- what a dispatch asks
record IsMet (types : List Placed) (site : Site) (b : Node) : Type 0 where
  dispatched : is_dispatched (resolved types site.target) ≡ true
  not_abstract : not (is_abstract b.method) ≡ true
  by_receiver : list_any (λ d. is_receiver types site.target.owner d && is_found b (selected types d (resolved types site.target) (signature_in site.target))) types ≡ true

met_by : (types : List Placed) (site : Site) (b : Node) → meets_dispatch types site b ≡ true → IsMet types site b
met_by types site b h =
    let p = and_first (is_dispatched (resolved types site.target) && not (is_abstract b.method)) (list_any (λ d. is_receiver types site.target.owner d && is_found b (selected types d (resolved types site.target) (signature_in site.target))) types) h in
    record {
      dispatched = and_first (is_dispatched (resolved types site.target)) (not (is_abstract b.method)) p;
      not_abstract = and_second (is_dispatched (resolved types site.target)) (not (is_abstract b.method)) p;
      by_receiver = and_second (is_dispatched (resolved types site.target) && not (is_abstract b.method)) (list_any (λ d. is_receiver types site.target.owner d && is_found b (selected types d (resolved types site.target) (signature_in site.target))) types) h;
    }

dispatch_instance : (types : List Placed) (site : Site) (b : Node) → Contains (nodes types) b → meets_dispatch types site b ≡ true → IsInstanceOf types (signature_in site.target) b
dispatch_instance types site b c h =
    let k = met_by types site b h in
    let d = in_any (λ d. is_receiver types site.target.owner d && is_found b (selected types d (resolved types site.target) (signature_in site.target))) types k.by_receiver in
    instance_given types site.target (selected types d.0 (resolved types site.target) (signature_in site.target)) b c (λ m e. dispatched_is_instance types d.0 site.target m k.dispatched e)
    (and_second (is_receiver types site.target.owner d.0) (is_found b (selected types d.0 (resolved types site.target) (signature_in site.target))) d.2)

special_instance : (types : List Placed) (x : Placed) (site : Site) (b : Node) → Contains (nodes types) b → meets_special types x site b ≡ true → IsInstanceOf types (signature_in site.target) b
special_instance types x site b c h =
    instance_given types site.target (special types x site.target) b c (special_is_instance types x site.target) (and_first (is_found b (special types x site.target)) (not (is_abstract b.method)) h)

outcome_signature : (types : List Placed) (r : Ref) (b : Node) → Contains (nodes types) b → is_outcome b (resolved types r) ≡ true → has_signature (signature_in r) b.method ≡ true
outcome_signature types r b c h = at (resolved types r) refl h
  where
    at : (o : Outcome) → resolved types r ≡ o → is_outcome b o ≡ true → has_signature (signature_in r) b.method ≡ true
    at (Found m) e k =
        let n = resolved_of types r m e in
        subst (λ v. has_signature (signature_in r) v.method ≡ true) (sym (one_node types b m c (Contains-from_IsIn _ m n.0) k)) n.1
    at Phantom e k = absurd (cc)
    at (Failed cause) e k = absurd (cc)

pub of_statics : (types : List Placed) (a b : Node) (site : Site) → meets types a site b ≡ true → call_of site.kind ≡ StaticCall → is_static b.method ≡ true
of_statics types a b site h f = at (has_array_owner site.target) refl
  where
    at : (w : Bool) → has_array_owner site.target ≡ w → is_static b.method ≡ true
    at true e = and_second (is_outcome b (resolved types site.target) && not (is_abstract b.method)) (is_static b.method) (sym (meets_is types a b site true StaticCall e f) ∙ h)
    at false e = and_second (is_outcome b (resolved types site.target)) (is_static b.method) (sym (meets_is types a b site false StaticCall e f) ∙ h)

-- ---- by the flags and by the name

record IsTarget (types : List Placed) (site : Site) (b : Node) (c : Call) : Type 0 where
  flags : (c ≡ StaticCall → ⊥) → (is_instance b.method ≡ true) × (is_abstract b.method ≡ false)
  name : has_signature (signature_in site.target) b.method ≡ true

array_target : (types : List Placed) (site : Site) (b : Node) (c : Call) → Contains (nodes types) b → meets_array types site b c ≡ true → IsTarget types site b c
array_target types site b c n h = at c h
  where
    of_flag : (f : Bool) → (is_outcome b (resolved types site.target) && not (is_abstract b.method) && f) ≡ true → (f ≡ true) × (is_abstract b.method ≡ false) × (has_signature (signature_in site.target) b.method ≡ true)
    of_flag f k =
        let p = and_first (is_outcome b (resolved types site.target) && not (is_abstract b.method)) f k in (
          and_second (is_outcome b (resolved types site.target) && not (is_abstract b.method)) f k,
          not-true (is_abstract b.method) (and_second (is_outcome b (resolved types site.target)) (not (is_abstract b.method)) p),
          outcome_signature types site.target b n (and_first (is_outcome b (resolved types site.target)) (not (is_abstract b.method)) p),
        )

    at : (c : Call) → meets_array types site b c ≡ true → IsTarget types site b c
    at StaticCall k = let r = of_flag (is_static b.method) k in record { flags = λ other. absurd (other refl); name = r.2 }
    at NoCall k = absurd (cc)
    at VirtualCall k = let r = of_flag (is_instance b.method) k in record { flags = λ other. (r.0, r.1); name = r.2 }
    at InterfaceCall k = let r = of_flag (is_instance b.method) k in record { flags = λ other. (r.0, r.1); name = r.2 }
    at SpecialCall k = let r = of_flag (is_instance b.method) k in record { flags = λ other. (r.0, r.1); name = r.2 }

row_target : (types : List Placed) (a : Node) (site : Site) (b : Node) (c : Call) → Contains (nodes types) b → meets_row types a site b c ≡ true → IsTarget types site b c
row_target types a site b VirtualCall n h =
    let i = dispatch_instance types site b n h in
    record { flags = λ other. (i.1, not-true (is_abstract b.method) (met_by types site b h).not_abstract); name = i.2 }
row_target types a site b InterfaceCall n h =
    let i = dispatch_instance types site b n h in
    record { flags = λ other. (i.1, not-true (is_abstract b.method) (met_by types site b h).not_abstract); name = i.2 }
row_target types a site b SpecialCall n h =
    let i = special_instance types a.owner site b n h in
    record { flags = λ other. (i.1, not-true (is_abstract b.method) (and_second (is_found b (special types a.owner site.target)) (not (is_abstract b.method)) h)); name = i.2 }
row_target types a site b StaticCall n h =
    record { flags = λ other. absurd (other refl); name = outcome_signature types site.target b n (and_first (is_outcome b (resolved types site.target)) (is_static b.method) h) }
row_target types a site b NoCall n h = absurd (cc)

target_is : (types : List Placed) (a b : Node) (site : Site) → Contains (nodes types) b → meets types a site b ≡ true → IsTarget types site b (call_of site.kind)
target_is types a b site n h = at (has_array_owner site.target) refl
  where
    at : (w : Bool) → has_array_owner site.target ≡ w → IsTarget types site b (call_of site.kind)
    at true e = array_target types site b (call_of site.kind) n (sym (meets_is types a b site true (call_of site.kind) e refl) ∙ h)
    at false e = row_target types a site b (call_of site.kind) n (sym (meets_is types a b site false (call_of site.kind) e refl) ∙ h)

pub of_others : (types : List Placed) (a b : Node) (site : Site) → Contains (nodes types) b → meets types a site b ≡ true → (call_of site.kind ≡ StaticCall → ⊥) → (is_instance b.method ≡ true) × (is_abstract b.method ≡ false)
of_others types a b site n h other = (target_is types a b site n h).flags other

pub of_name : (types : List Placed) (a b : Node) (site : Site) → Contains (nodes types) b → meets types a site b ≡ true → has_signature (signature_in site.target) b.method ≡ true
of_name types a b site n h = (target_is types a b site n h).name

-- ---- by receivers

pub by_receivers : (types : List Placed) (a b : Node) (site : Site) → has_array_owner site.target ≡ false → (call_of site.kind ≡ VirtualCall) ⊎ (call_of site.kind ≡ InterfaceCall) → is_abstract b.method ≡ false
    → is_dispatched (resolved types site.target) ≡ true → (meets types a site b ≡ true) ↔ HasReceiver types site b
by_receivers types a b site e k f g = (λ h. forth (sym (dispatch k) ∙ h), λ h. dispatch k ∙ back h)
  where
    dispatch : (call_of site.kind ≡ VirtualCall) ⊎ (call_of site.kind ≡ InterfaceCall) → meets types a site b ≡ meets_dispatch types site b
    dispatch (inl q) = meets_is types a b site false VirtualCall e q
    dispatch (inr q) = meets_is types a b site false InterfaceCall e q

    forth : meets_dispatch types site b ≡ true → HasReceiver types site b
    forth h =
        let d = in_any (λ d. is_receiver types site.target.owner d && is_found b (selected types d (resolved types site.target) (signature_in site.target))) types (met_by types site b h).by_receiver in
        let n = given_by (selected types d.0 (resolved types site.target) (signature_in site.target)) b (and_second (is_receiver types site.target.owner d.0) (is_found b (selected types d.0 (resolved types site.target) (signature_in site.target))) d.2) in
        record {
          receiver = d.0;
          receiver_in = Contains-from_IsIn types d.0 d.1;
          receives = and_first (is_receiver types site.target.owner d.0) (is_found b (selected types d.0 (resolved types site.target) (signature_in site.target))) d.2;
          target = n.node;
          selected' = n.given;
          number = n.number;
        }

    back : HasReceiver types site b → meets_dispatch types site b ≡ true
    back h =
        and_from (is_dispatched (resolved types site.target) && not (is_abstract b.method)) _
        (and_from (is_dispatched (resolved types site.target)) (not (is_abstract b.method)) g (ap not f))
        (any_in (λ d. is_receiver types site.target.owner d && is_found b (selected types d (resolved types site.target) (signature_in site.target))) types h.receiver (IsIn-from_Contains types h.receiver h.receiver_in)
        (and_from (is_receiver types site.target.owner h.receiver) _ h.receives (ap (is_found b) h.selected' ∙ h.number)))
