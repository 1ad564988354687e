-- What is known of the references of parts, and what is found for one of them.
use Rattle.std.proofs.Common.{◌≡◌, ℕ, ◌<◌, List, length, sym, subst, ◌∙◌, inl, inr}
use Rattle.std.specs.Prelude.{◌⊎◌, Option, Some, None, IfSome}
use Rattle.fcg_views.specs.declared.view.Ref.{Ref}
use Rattle.fcg_partial.specs.Parts.{PartShown}
use Rattle.fcg_analysis.specs.Resolution.{resolved}
use Rattle.fcg_analysis.proofs.General.Places.{same_at}
use Rattle.fcg_join.specs.Parts.{types_of, nodes_of}
use Rattle.fcg_join.specs.SetNames.{set_names}
use Rattle.fcg_join.specs.Numbers.{HasRef}
use Rattle.fcg_join.specs.Outcomes.{GivesOutcome, IfMethod}
use Rattle.fcg_join.specs.declared.id.NumberedRef.{NumberedRef}
use Rattle.fcg_join.specs.declared.outcome.Outcome.{Outcome}
use Rattle.fcg_edges.specs.Rows.{Rows, has}
use Rattle.fcg_stitch.specs.Targets.{targets_over}
use Rattle.fcg_stitch.specs.declared.states.Targets.{Targets}
use Rattle.fcg_stitch.specs.declared.states.RefState.{RefState}
use Rattle.fcg_stitch.specs.Internal.References.{IsReferenceAt}
use Rattle.fcg_stitch.specs.Internal.Rows.{listed, AreWithin, AreTargets, IsState, AreStates, HavePlaces, state_at}

-- the names of one reference have these numbers
pub one_reference : (parts : List PartShown) (r : NumberedRef) (a b : Ref) → HasRef parts r a → HasRef parts r b → a ≡ b
one_reference parts r a b h k =
    let owner : a.owner ≡ b.owner = same_at (set_names parts) r.owner.0 a.owner b.owner h.owner k.owner in
    let kind : a.owner_is_interface_ref ≡ b.owner_is_interface_ref = sym h.kind ∙ k.kind in
    let name : a.name ≡ b.name = same_at (set_names parts) r.name.0 a.name b.name h.name k.name in
    let desc : a.desc ≡ b.desc = same_at (set_names parts) r.desc.0 a.desc b.desc h.desc k.desc in
    λ i. record { owner = owner i; owner_is_interface_ref = kind i; name = name i; desc = desc i }

-- the outcome of a reference is that of each reference with its numbers
pub outcome_of_each : (parts : List PartShown) (r : NumberedRef) (a : Ref) (o : Outcome) → HasRef parts r a → GivesOutcome parts o (resolved (types_of parts) a) → (b : Ref) → HasRef parts r b → GivesOutcome parts o (resolved (types_of parts) b)
outcome_of_each parts r a o h g b k = subst (λ (x : Ref). GivesOutcome parts o (resolved (types_of parts) x)) (one_reference parts r a b h k) g

-- a reference that was resolved
pub resolved_state : (parts : List PartShown) (lists : List (List ℕ)) (reference : Ref) (o : Outcome) → GivesOutcome parts o (resolved (types_of parts) reference) → IfMethod o (λ m. m.0 < length (nodes_of parts)) → IsState parts lists (record { outcome = o; targets = None }) reference
resolved_state parts lists reference o g r = record { outcome = g; range = r; targets = tt }

-- what is kept is known
pub kept_states : (parts : List PartShown) (lists : List (List ℕ)) (old new : List (List (Option RefState))) (i r : ℕ) (state : RefState)
    → (HavePlaces parts old → HavePlaces parts new)
    → ((j k : ℕ) (s : RefState) → state_at new j k ≡ Some s → (s ≡ state) × (j ≡ i) × (k ≡ r) ⊎ (state_at old j k ≡ Some s))
    → ((reference : Ref) → IsReferenceAt parts i r reference → IsState parts lists state reference)
    → AreStates parts lists old → AreStates parts lists new
kept_states parts lists old new i r state there others given a = record { places = there a.places; each = each }
  where
    each : (j k : ℕ) (s : RefState) (reference : Ref) → state_at new j k ≡ Some s → IsReferenceAt parts j k reference → IsState parts lists s reference
    each j k s reference e f =
        elim (others j k s e) [
          | inl p ↦ subst (λ (t : RefState). IsState parts lists t reference) (sym p.0)
              (given reference (subst (λ (n : ℕ). IsReferenceAt parts i n reference) p.2 (subst (λ (n : ℕ). IsReferenceAt parts n k reference) p.1 f)))
          | inr q ↦ a.each j k s reference q f
        ]

-- ---- targets of a reference

-- the same nodes, of as many
pub same_targets : (n m : ℕ) (lists : List (List ℕ)) (t : Targets) (ks js : List ℕ) → n ≡ m → AreTargets n lists t ks → ((b : ℕ) → has ks b ≡ has js b) → AreTargets m lists t js
same_targets n m lists t ks js e a s = record { within = subst (λ i. AreWithin i lists t) e a.within; each = λ b. a.each b ∙ s b }

pub known_targets : (parts : List PartShown) (r : Rows) (state : RefState) (t : Targets) (reference : Ref) → r.count ≡ length (nodes_of parts) → state.targets ≡ Some t → IsState parts r.lists state reference
    → AreTargets r.count r.lists t (targets_over (types_of parts) reference (types_of parts))
known_targets parts r state t reference e h i =
    let ks = targets_over (types_of parts) reference (types_of parts) in
    let a : AreTargets (length (nodes_of parts)) r.lists t ks = subst (λ o. IfSome o (λ u. AreTargets (length (nodes_of parts)) r.lists u ks)) h i.targets in
    subst (λ n. AreTargets n r.lists t ks) (sym e) a

-- the targets are found for a reference that was resolved
pub shared_state : (parts : List PartShown) (old lists : List (List ℕ)) (n : ℕ) (state : RefState) (t : Targets) (found : List ℕ) (reference : Ref)
    → n ≡ length (nodes_of parts) → IsState parts old state reference → AreTargets n lists t found
    → ((b : ℕ) → has found b ≡ has (targets_over (types_of parts) reference (types_of parts)) b)
    → IsState parts lists (record { outcome = state.outcome; targets = Some t }) reference
shared_state parts old lists n state t found reference e i a s = record {
  outcome = i.outcome;
  range = i.range;
  targets = same_targets n (length (nodes_of parts)) lists t found (targets_over (types_of parts) reference (types_of parts)) e a s;
}

-- the one target that was found, or none
pub found_target : (n m : ℕ) (lists : List (List ℕ)) (t : Targets) (found : Option ℕ) (ks : List ℕ) → n ≡ m
    → ((count : ℕ) (rows : List (List ℕ)) → IfSome found (λ k. k < count) → AreTargets count rows t (listed found))
    → IfSome found (λ k. k < m) → listed found ≡ ks → AreTargets n lists t ks
found_target n m lists t found ks e one range v = subst (λ js. AreTargets n lists t js) v (one n lists (subst (λ i. IfSome found (λ k. k < i)) (sym e) range))
