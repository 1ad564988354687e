-- The targets of a reference, while they are found type by type, and when they stand once each.
use Rattle.std.proofs.Common.{◌≡◌, ℕ, ◌+◌, ◌<◌, List, [], ◌∷◌, ◌++◌, length, take, get_or, refl, sym, ap, subst, ◌∙◌, arith}
use Rattle.std.specs.Prelude.{Bool, true, false, Option, Some, filter, map, option_map, slice_get}
use Rattle.std.proofs.lemmas.Option.{slice_get-map, slice_get-get_or, slice_get_within, get_or_from_slice_get, same_Some}
use Rattle.std.proofs.lemmas.List.{length-map, take_more, take_all}
use Rattle.fcg_views.specs.declared.view.Ref.{Ref}
use Rattle.fcg_partial.specs.Parts.{PartShown}
use Rattle.fcg_analysis.specs.Declarations.{Placed, Signature, signature_in, signature_of, has_signature, is_instance}
use Rattle.fcg_analysis.specs.Types.{is_below}
use Rattle.fcg_analysis.specs.Nodes.{Node, nodes}
use Rattle.fcg_analysis.specs.Resolution as rules
use Rattle.fcg_analysis.specs.Resolution.{resolved}
use Rattle.fcg_analysis.specs.Edges.{is_dispatched}
use Rattle.fcg_analysis.proofs.General.Members.{IsIn, IsIn-from_Contains, Contains-from_IsIn, in_filter}
use Rattle.fcg_analysis.proofs.General.Places.{some_at, member_at}
use Rattle.fcg_analysis.proofs.ResolvedLaws.{resolved_of}
use Rattle.fcg_join.specs.declared.id.TypeId.{TypeId}
use Rattle.fcg_join.specs.declared.id.SignatureId.{SignatureId}
use Rattle.fcg_join.specs.declared.id.NumberedRef.{NumberedRef}
use Rattle.fcg_join.specs.declared.outcome.Outcome.{Outcome}
use Rattle.fcg_join.specs.declared.outcome.Outcome.TheVariants as outcomes
use Rattle.fcg_join.specs.Parts.{types_of}
use Rattle.fcg_join.specs.Joined.{HasType}
use Rattle.fcg_join.specs.Numbers.{HasName, HasRef, GivesSignature}
use Rattle.fcg_join.specs.Outcomes.{GivesOutcome}
use Rattle.fcg_join.proofs.FoundNumbers.{one_name}
use Rattle.fcg_select.specs.Instance.{IsInstanceAs}
use Rattle.fcg_select.proofs.Selecting.{signature_is}
use Rattle.fcg_edges.specs.Rows.{IsList, has}
use Rattle.fcg_stitch.specs.Targets.{receiver_target, targets_over}
use Rattle.fcg_stitch.specs.Internal.Distinct.{AreDistinct}
use Rattle.fcg_stitch.proofs.TargetNumbers.{targets_of_dispatched, none_of_others, targets_go_on, targets_below, target_within, all_within}
use Rattle.fcg_stitch.proofs.DistinctNumbers.{in_numbers, numbers_in}

-- the types at or below the name of the owner
abbrev pub below_owner : List PartShown → Ref → List Placed
below_owner parts r = filter (λ t. is_below (types_of parts) t r.owner) (types_of parts)

-- the numbers are the targets of the reference, of the first i types at or below the name of its owner
abbrev pub AreFound : List PartShown → NumberedRef → ℕ → List ℕ → Type 0
AreFound parts reference i ks = (r : Ref) → HasRef parts reference r → ks ≡ targets_over (types_of parts) r (take i (below_owner parts r))

pub nothing_found : (types : List Placed) (r : Ref) → targets_over types r [] ≡ []
nothing_found types r = at (is_dispatched (resolved types r)) refl
  where
    at : (w : Bool) → is_dispatched (resolved types r) ≡ w → targets_over types r [] ≡ []
    at true e = targets_of_dispatched types r [] e
    at false e = none_of_others types r [] e

-- ---- the types at or below the name of the owner, by their numbers

module _ (parts : List PartShown) (reference : NumberedRef) (r : Ref) (h : HasRef parts reference r) where
  abbrev type_at : TypeId → Option Placed
  type_at id = slice_get (types_of parts) id.0

  module _ (name : List ℕ) (named : HasName parts reference.owner name) (ids : List TypeId) (found : map type_at ids ≡ map Some (filter (λ t. is_below (types_of parts) t name) (types_of parts))) where
    rows : map type_at ids ≡ map Some (below_owner parts r)
    rows =
        subst (λ (n : List ℕ). map type_at ids ≡ map Some (filter (λ t. is_below (types_of parts) t n) (types_of parts)))
        (one_name parts reference.owner name r.owner named h.owner) found

    many : length ids ≡ length (below_owner parts r)
    many = sym (length-map ids type_at) ∙ ap (λ (os : List (Option Placed)). length os) rows ∙ length-map (below_owner parts r) Some

    there : (i : ℕ) (d : TypeId) → i < length ids → (x : Placed) × (slice_get (below_owner parts r) i ≡ Some x) × HasType parts (get_or ids i d) x
    there i d l =
        let x = some_at (below_owner parts r) i (let m = many in omega arith) in
        let here : slice_get (map type_at ids) i ≡ Some (type_at (get_or ids i d)) = slice_get-map type_at ids i ∙ ap (option_map type_at) (slice_get-get_or ids i d l) in
        let same : slice_get (map type_at ids) i ≡ Some (Some x.0) = ap (λ (os : List (Option Placed)). slice_get os i) rows ∙ slice_get-map Some (below_owner parts r) i ∙ ap (option_map Some) x.1 in
        (x.0, x.1, same_Some (type_at (get_or ids i d)) (Some x.0) (sym here ∙ same))

    -- one type more
    pub next : (i : ℕ) (d : TypeId) → i < length ids → is_dispatched (resolved (types_of parts) r) ≡ true → (ks new : List ℕ) → ks ≡ targets_over (types_of parts) r (take i (below_owner parts r))
        → ((x : Placed) → HasType parts (get_or ids i d) x → is_below (types_of parts) x r.owner ≡ true → new ≡ ks ++ receiver_target (types_of parts) r x)
        → new ≡ targets_over (types_of parts) r (take (i + 1) (below_owner parts r))
    next i d l e ks new s more =
        let types = types_of parts in
        let x = there i d l in
        let ds = take i (below_owner parts r) in
        let here = in_filter (λ t. is_below types t r.owner) types x.0 (IsIn-from_Contains (below_owner parts r) x.0 (member_at (below_owner parts r) i x.0 x.1)) in
        let longer : take (i + 1) (below_owner parts r) ≡ ds ++ x.0 ∷ [] =
        take_more (below_owner parts r) i x.0 (slice_get_within (below_owner parts r) i x.0 x.1)
        ∙ ap (λ y. ds ++ y ∷ []) (get_or_from_slice_get (below_owner parts r) i x.0 x.0 x.1) in
        more x.0 x.2 here.1 ∙ ap (λ (v : List ℕ). v ++ receiver_target types r x.0) s ∙ sym (targets_go_on types r ds x.0 e) ∙ ap (targets_over types r) (sym longer)

    -- all types
    pub whole : (i : ℕ) → i ≡ length ids → targets_over (types_of parts) r (take i (below_owner parts r)) ≡ targets_over (types_of parts) r (types_of parts)
    whole i e =
        ap (targets_over (types_of parts) r) (take_all i (below_owner parts r) (let m = many in omega arith))
        ∙ targets_below (types_of parts) r

-- ---- the outcome

-- a method for which receivers are asked is an instance method of the reference's signature
pub instance_found : (parts : List PartShown) (out : Outcome) (s : Option SignatureId) (r : Ref) → GivesOutcome parts out (resolved (types_of parts) r) → is_dispatched (resolved (types_of parts) r) ≡ true → GivesSignature parts s (signature_in r) → IsInstanceAs parts out s
instance_found parts out s r g e k = at out (resolved (types_of parts) r) refl g e
  where
    at : (u : Outcome) (o : rules.Outcome) → resolved (types_of parts) r ≡ o → GivesOutcome parts u o → is_dispatched o ≡ true → IsInstanceAs parts u s
    at (outcomes.Method m) (rules.Found n) q g e = λ v h. (
        let same : n ≡ v = same_Some n v (sym g ∙ h) in
        let signed : has_signature (signature_in r) n.method ≡ true = (resolved_of (types_of parts) r n q).1 in
        subst (λ (w : Node). (is_instance w.method ≡ true) × GivesSignature parts s (signature_of w.method)) same
        (e, subst (λ (w : Signature). GivesSignature parts s w) (signature_is (signature_in r) n signed) k))
    at (outcomes.Method m) rules.Phantom q g e = absurd g
    at (outcomes.Method m) (rules.Failed d) q g e = absurd g
    at outcomes.Phantom o q g e = tt
    at (outcomes.Failed c) o q g e = tt

-- ---- the list

pub listed_once : (types : List Placed) (r : Ref) (ds : List Placed) (ks new : List ℕ) → ks ≡ targets_over types r ds → AreDistinct ks new → IsList (length (nodes types)) new
listed_once types r ds ks new s d = record {
  rise = d.rise;
  below = all_within types new (λ k i. target_within types r ds k (
      let old : has ks k ≡ true = sym (d.same k) ∙ numbers_in new k (Contains-from_IsIn new k i) in
      subst (λ (v : List ℕ). IsIn k v) s (IsIn-from_Contains ks k (in_numbers ks k old))));
}
