-- The number of a method that passes, and the targets type by type.
use Rattle.std.proofs.Common.{◌≡◌, ℕ, ◌<◌, List, [], ◌∷◌, ◌++◌, length, append-nil, refl, sym, ap, subst, ◌∙◌, inl, inr}
use Rattle.std.specs.Prelude.{◌↔◌, Bool, true, false, cond, ◌&&◌, All, Option, Some, None, Contains, filter, flat_map}
use Rattle.std.proofs.lemmas.Bool.{and_from}
use Rattle.std.proofs.lemmas.Bool.Decides.{Decides-eqb}
use Rattle.std.proofs.lemmas.List.Concat.{flat_map-append}
use Rattle.std.proofs.lemmas.List.Elements.{All-from_recursion}
use Rattle.std.proofs.lemmas.Option.{slice_get_within}
use Rattle.fcg_views.specs.declared.view.Ref.{Ref}
use Rattle.fcg_analysis.specs.Declarations.{Placed, signature_in}
use Rattle.fcg_analysis.specs.Types.{is_below}
use Rattle.fcg_analysis.specs.Nodes.{Node, nodes, is_node}
use Rattle.fcg_analysis.specs.Resolution.{resolved}
use Rattle.fcg_analysis.specs.Selection.{selected}
use Rattle.fcg_analysis.specs.Edges.{is_found, is_dispatched, is_receiver}
use Rattle.fcg_stitch.specs.Targets.{number_where, is_concrete, receiver_target, targets_over}
use Rattle.fcg_analysis.proofs.General.Members.{IsIn, IsIn-from_Contains, Contains-from_IsIn, in_flat_map, and_first, and_second}
use Rattle.fcg_analysis.proofs.General.Sorted.{all_from_in}
use Rattle.fcg_analysis.proofs.MeetLaws.{dispatched_is_instance}
use Rattle.fcg_analysis.proofs.NodeMembers.{one_node}
use Rattle.fcg_analysis.proofs.NodePlaces.{number_is_place}

-- ---- the number of a method that passes

-- k is the number of the method, which passes
pub record IsNumber (test : Node → Bool) (o : Option Node) (k : ℕ) : Type 0 where
  pub node : Node
  pub given : o ≡ Some node
  pub passes : test node ≡ true
  pub number : node.number ≡ k

pub in_number : (test : Node → Bool) (o : Option Node) (k : ℕ) → IsIn k (number_where test o) → IsNumber test o k
in_number test None k h = absurd h
in_number test (Some m) k h = at (test m) refl h
  where
    at : (b : Bool) → test m ≡ b → IsIn k (cond b (m.number ∷ []) []) → IsNumber test (Some m) k
    at true e (inl q) = record { node = m; given = refl; passes = e; number = q }
    at true e (inr q) = absurd q
    at false e q = absurd q

pub number_in : (test : Node → Bool) (o : Option Node) (k : ℕ) → IsNumber test o k → IsIn k (number_where test o)
number_in test o k h =
    let e : number_where test o ≡ h.node.number ∷ [] = ap (number_where test) h.given ∙ ap (λ b. cond b (h.node.number ∷ []) []) h.passes in
    subst (λ ks. IsIn k ks) (sym e) (inl h.number)

-- the method is a node
abbrev pub IsNode : List Placed → Option Node → Type 0
IsNode types o = (m : Node) → o ≡ Some m → Contains (nodes types) m

-- a node has the number where it is the method, and passes
pub number_as : (types : List Placed) (b : Node) → Contains (nodes types) b → (test : Node → Bool) (o : Option Node) → IsNode types o → Contains (number_where test o) b.number ↔ ((is_found b o && test b) ≡ true)
number_as types b c test o n =
    (λ h. forth (in_number test o b.number (IsIn-from_Contains _ _ h)), λ h. Contains-from_IsIn _ _ (number_in test o b.number (back o refl h)))
  where
    forth : IsNumber test o b.number → (is_found b o && test b) ≡ true
    forth h =
        let same : is_node b h.node ≡ true = (Decides-eqb b.number h.node.number).1 (sym h.number) in
        let one : b ≡ h.node = one_node types b h.node c (n h.node h.given) same in
        and_from (is_found b o) (test b) (ap (is_found b) h.given ∙ same) (ap test one ∙ h.passes)

    back : (p : Option Node) → o ≡ p → (is_found b o && test b) ≡ true → IsNumber test o b.number
    back None e h = absurd (let f : is_found b o ≡ true = and_first (is_found b o) (test b) h in let g : is_found b o ≡ false = ap (is_found b) e in cc)
    back (Some m) e h =
        let same : is_node b m ≡ true = sym (ap (is_found b) e) ∙ and_first (is_found b o) (test b) h in
        let one : b ≡ m = one_node types b m c (n m e) same in
        record { node = m; given = e; passes = sym (ap test one) ∙ and_second (is_found b o) (test b) h; number = sym ((Decides-eqb b.number m.number).0 same) }

-- ---- numbers of nodes

abbrev pub IsWithin : List Placed → ℕ → Type 0
IsWithin types k = k < length (nodes types)

pub number_within : (types : List Placed) (test : Node → Bool) (o : Option Node) (k : ℕ) → IsNode types o → IsIn k (number_where test o) → IsWithin types k
number_within types test o k n h =
    let i = in_number test o k h in
    subst (IsWithin types) i.number (slice_get_within (nodes types) i.node.number i.node (number_is_place types i.node (n i.node i.given)))

pub all_within : (types : List Placed) (ks : List ℕ) → ((k : ℕ) → IsIn k ks → IsWithin types k) → All (λ k. k < length (nodes types)) ks
all_within types ks h = All-from_recursion (IsWithin types) ks (all_from_in (IsWithin types) ks h)

-- ---- what is selected for a receiver

abbrev pub chosen : List Placed → Ref → Placed → Option Node
chosen types r d = selected types d (resolved types r) (signature_in r)

pub chosen_is_node : (types : List Placed) (r : Ref) (d : Placed) → is_dispatched (resolved types r) ≡ true → IsNode types (chosen types r d)
chosen_is_node types r d e m s = (dispatched_is_instance types d r m e s).0

pub received : (types : List Placed) (r : Ref) (d : Placed) (k : ℕ) → IsIn k (receiver_target types r d) → (is_receiver types r.owner d ≡ true) × IsIn k (number_where is_concrete (chosen types r d))
received types r d k h = at (is_receiver types r.owner d) refl h
  where
    at : (w : Bool) → is_receiver types r.owner d ≡ w → IsIn k (cond w (number_where is_concrete (chosen types r d)) []) → (is_receiver types r.owner d ≡ true) × IsIn k (number_where is_concrete (chosen types r d))
    at true e q = (e, q)
    at false e q = absurd q

pub receives : (types : List Placed) (r : Ref) (d : Placed) (k : ℕ) → is_receiver types r.owner d ≡ true → IsIn k (number_where is_concrete (chosen types r d)) → IsIn k (receiver_target types r d)
receives types r d k e h = subst (λ w. IsIn k (cond w (number_where is_concrete (chosen types r d)) [])) (sym e) h

-- ---- targets type by type

targets_are : (types : List Placed) (r : Ref) (ds : List Placed) (w : Bool) → is_dispatched (resolved types r) ≡ w → targets_over types r ds ≡ cond w (flat_map (receiver_target types r) ds) []
unfolding targets_over
targets_are types r ds w e = ap (λ v. cond v (flat_map (receiver_target types r) ds) []) e

pub targets_of_dispatched : (types : List Placed) (r : Ref) (ds : List Placed) → is_dispatched (resolved types r) ≡ true → targets_over types r ds ≡ flat_map (receiver_target types r) ds
targets_of_dispatched types r ds e = targets_are types r ds true e

pub none_of_others : (types : List Placed) (r : Ref) (ds : List Placed) → is_dispatched (resolved types r) ≡ false → targets_over types r ds ≡ []
none_of_others types r ds e = targets_are types r ds false e

pub targets_go_on : (types : List Placed) (r : Ref) (ds : List Placed) (d : Placed) → is_dispatched (resolved types r) ≡ true → targets_over types r (ds ++ d ∷ []) ≡ targets_over types r ds ++ receiver_target types r d
targets_go_on types r ds d e =
    targets_of_dispatched types r (ds ++ d ∷ []) e
    ∙ flat_map-append (receiver_target types r) ds (d ∷ [])
    ∙ ap (λ ks. flat_map (receiver_target types r) ds ++ ks) (append-nil (receiver_target types r d))
    ∙ ap (λ ks. ks ++ receiver_target types r d) (sym (targets_of_dispatched types r ds e))

-- what has nothing is left out
left_out : (f : Placed → List ℕ) (p : Placed → Bool) (ds : List Placed) → ((d : Placed) → p d ≡ false → f d ≡ []) → flat_map f (filter p ds) ≡ flat_map f ds
left_out f p [] h = refl
left_out f p (d ∷ ds) h = at (p d) refl (left_out f p ds h)
  where
    at : (b : Bool) → p d ≡ b → flat_map f (filter p ds) ≡ flat_map f ds → flat_map f (cond b (d ∷ filter p ds) (filter p ds)) ≡ f d ++ flat_map f ds
    at true e r = ap (λ ks. f d ++ ks) r
    at false e r = r ∙ sym (ap (λ ks. ks ++ flat_map f ds) (h d e))

and_none : (a b : Bool) → b ≡ false → (a && b) ≡ false
and_none true b e = e
and_none false b e = refl

none_above : (types : List Placed) (r : Ref) (d : Placed) → is_below types d r.owner ≡ false → receiver_target types r d ≡ []
none_above types r d e =
    ap (λ w. cond w (number_where is_concrete (chosen types r d)) []) (and_none _ (is_below types d r.owner) e)

pub targets_below : (types : List Placed) (r : Ref) → targets_over types r (filter (λ d. is_below types d r.owner) types) ≡ targets_over types r types
targets_below types r = at (is_dispatched (resolved types r)) refl
  where
    at : (w : Bool) → is_dispatched (resolved types r) ≡ w → targets_over types r (filter (λ d. is_below types d r.owner) types) ≡ targets_over types r types
    at true e =
        targets_of_dispatched types r (filter (λ d. is_below types d r.owner) types) e
        ∙ left_out (receiver_target types r) (λ d. is_below types d r.owner) types (none_above types r)
        ∙ sym (targets_of_dispatched types r types e)
    at false e = none_of_others types r (filter (λ d. is_below types d r.owner) types) e ∙ sym (none_of_others types r types e)

pub target_within : (types : List Placed) (r : Ref) (ds : List Placed) (k : ℕ) → IsIn k (targets_over types r ds) → IsWithin types k
target_within types r ds k h = at (is_dispatched (resolved types r)) refl
  where
    at : (w : Bool) → is_dispatched (resolved types r) ≡ w → IsWithin types k
    at true e =
        let d = in_flat_map (receiver_target types r) ds k (subst (λ ks. IsIn k ks) (targets_of_dispatched types r ds e) h) in
        number_within types is_concrete (chosen types r d.0) k (chosen_is_node types r d.0 e) (received types r d.0 k d.2).1
    at false e = absurd (subst (λ ks. IsIn k ks) (none_of_others types r ds e) h)
