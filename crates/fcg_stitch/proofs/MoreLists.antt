-- What was found stays so where there are more lists of targets.
use Rattle.std.proofs.Common.{◌≡◌, ℕ, ◌<◌, ◌≤◌, List, length, refl, sym, ap, subst, ◌∙◌, arith}
use Rattle.std.specs.Prelude.{Bool, ◌||◌, Option}
use Rattle.std.proofs.lemmas.List.Elements.{recursion_from_All, All-weaker}
use Rattle.std.proofs.lemmas.Option.{IfSome_then}
use Rattle.fcg_views.specs.declared.view.Ref.{Ref}
use Rattle.fcg_order.specs.Links.{row}
use Rattle.fcg_partial.specs.Parts.{PartShown}
use Rattle.fcg_analysis.proofs.General.Sorted.{in_all}
use Rattle.fcg_analysis.proofs.General.Finding.{any_alike}
use Rattle.fcg_join.specs.Parts.{types_of, nodes_of}
use Rattle.fcg_edges.specs.Rows.{Rows, IsWithCaller, has}
use Rattle.fcg_stitch.specs.Targets.{targets_over}
use Rattle.fcg_stitch.specs.declared.states.Targets.{Targets}
use Rattle.fcg_stitch.specs.declared.states.Targets.TheVariants as targets
use Rattle.fcg_stitch.specs.declared.states.RefState.{RefState}
use Rattle.fcg_stitch.specs.Internal.Rows.{AreWithin, AreTargets, IsState, AreStates, HaveMoreLists, row_has, IsRowWithin}

-- ---- there are no fewer lists

-- the first lists stand
pub record AreMore (xs ys : List (List ℕ)) : Type 0 where
  pub more : length xs ≤ length ys
  pub same : (l : ℕ) → l < length xs → row ys l ≡ row xs l

pub more_of_lists : (r s : Rows) → HaveMoreLists r s → AreMore r.lists s.lists
more_of_lists r s h = record { more = h.more; same = h.lists }

pub more_of_caller : (r s : Rows) (ts us : List ℕ) → IsWithCaller r s ts us → AreMore r.lists s.lists
more_of_caller r s ts us h = record { more = h.more_lists; same = h.lists }

pub same_lists : (r : Rows) → HaveMoreLists r r
same_lists r = record { count = refl; callers = refl; more = omega arith; lists = λ l b. refl; leads = λ a b l. refl }

pub more_and_more : (r s t : Rows) → HaveMoreLists r s → HaveMoreLists s t → HaveMoreLists r t
more_and_more r s t h k = record {
  count = k.count ∙ h.count;
  callers = k.callers ∙ h.callers;
  more = (let p : length r.lists ≤ length s.lists = h.more in let q : length s.lists ≤ length t.lists = k.more in omega arith);
  lists = λ l b. (let m : length r.lists ≤ length s.lists = h.more in let less : l < length s.lists = omega arith in k.lists l less ∙ h.lists l b);
  leads = λ a b l. (let less : a < length s.targets = subst (λ n. a < n) (sym h.callers) l in k.leads a b less ∙ h.leads a b l);
}

-- ---- targets, and what was found for a reference

module _ (xs ys : List (List ℕ)) (h : AreMore xs ys) where
  pub more_within : (n : ℕ) (t : Targets) → AreWithin n xs t → AreWithin n ys t
  more_within n targets.Nothing w = w
  more_within n (targets.One k) w = w
  more_within n (targets.List l) w = let m : length xs ≤ length ys = h.more in omega arith

  pub more_targets : (n : ℕ) (t : Targets) (ks : List ℕ) → AreTargets n xs t ks → AreTargets n ys t ks
  more_targets n targets.Nothing ks a = record { within = a.within; each = a.each }
  more_targets n (targets.One k) ks a = record { within = a.within; each = a.each }
  more_targets n (targets.List l) ks a = record {
    within = more_within n (targets.List l) a.within;
    each = λ b. ap (λ numbers. has numbers b) (h.same l a.within) ∙ a.each b;
  }

  pub more_state : (parts : List PartShown) (state : RefState) (reference : Ref) → IsState parts xs state reference → IsState parts ys state reference
  more_state parts state reference i = record {
    outcome = i.outcome;
    range = i.range;
    targets = IfSome_then state.targets i.targets (λ t a. more_targets (length (nodes_of parts)) t (targets_over (types_of parts) reference (types_of parts)) a);
  }

  pub more_states : (parts : List PartShown) (states : List (List (Option RefState))) → AreStates parts xs states → AreStates parts ys states
  more_states parts states a = record {
    places = a.places;
    each = λ i k state reference f g. more_state parts state reference (a.each i k state reference f g);
  }

-- ---- the row of a caller

pub more_row : (r s : Rows) (ts us : List ℕ) → HaveMoreLists r s → IsRowWithin r ts us → (b : ℕ) → row_has s.lists ts us b ≡ row_has r.lists ts us b
more_row r s ts us h w b =
    ap (λ (x : Bool). has ts b || x)
    (any_alike (λ l. has (row s.lists l) b) (λ l. has (row r.lists l) b) us (λ l i.
    ap (λ numbers. has numbers b) (h.lists l (in_all (λ u. u < length r.lists) us l (recursion_from_All (λ u. u < length r.lists) us w.uses) i))))

pub more_row_within : (r s : Rows) (ts us : List ℕ) → HaveMoreLists r s → IsRowWithin r ts us → IsRowWithin s ts us
more_row_within r s ts us h w = record {
  targets = All-weaker (λ b. b < r.count) (λ b. b < s.count) (λ b l. subst (λ n. b < n) (sym h.count) l) ts w.targets;
  uses = All-weaker (λ l. l < length r.lists) (λ l. l < length s.lists) (λ l i. (let m : length r.lists ≤ length s.lists = h.more in omega arith)) us w.uses;
}
