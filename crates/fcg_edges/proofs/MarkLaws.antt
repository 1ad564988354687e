-- Marks of nodes.
use Rattle.std.proofs.Common.{◌≡◌, ℕ, ◌+◌, ◌<◌, ◌≤◌, List, [], length, get_or, set, take, refl, sym, ap, subst, ◌∙◌, inl, inr, arith, eq-eqb}
use Rattle.std.specs.Prelude.{Bool, true, false, ◌||◌, ◌==◌, ◌⊎◌, All}
use Rattle.std.specs.List.Sorted.{IsStrictlyIncreasing}
use Rattle.std.proofs.lemmas.Bool.{eqb-true, or_cases, or_parts, ne_eqb, cases_Bool, cases_eq, false_from_ne_true, not_from_true, not_from_false, cond-true, cond-false}
use Rattle.std.proofs.lemmas.List.{get_or-set_same, get_or-set_other, get_or-take, length-take, get_or_default, take_all}
use Rattle.std.proofs.lemmas.List.Filters.{length-filter_more}
use Rattle.std.proofs.lemmas.List.Folds.{list_any_more}
use Rattle.std.proofs.lemmas.List.Kept.{AllPairs-from_increasing}
use Rattle.std.proofs.Math.ListN.{length-set}
use Rattle.fcg_analysis.proofs.General.Members.{length-filter_all}
use Rattle.fcg_edges.specs.Rows.{has}
use Rattle.fcg_edges.specs.Internal.Making.{AreMarkedBy, is_fresh, count_fresh}
use Rattle.fcg_edges.proofs.RowSizes.{contains-from_has}

-- ---- one node more

module _ (turn : ℕ) (p q : ℕ → Bool) (old new : List ℕ) (b : ℕ) (m : AreMarkedBy turn p old new) (e : (k : ℕ) → q k ≡ (p k || (b == k))) where
  -- what q passes, p passes or is b
  passed : (k : ℕ) → q k ≡ true → (p k ≡ true) ⊎ (b ≡ k)
  passed k h = elim (or_cases (p k) (b == k) (sym (e k) ∙ h)) [ inl t ↦ inl t | inr t ↦ inr (eqb-true b k t) ]

  not_passed : (k : ℕ) → q k ≡ false → (p k ≡ false) × (b ≡ k → ⊥)
  not_passed k h =
      let r = or_parts (p k) (b == k) (sym (e k) ∙ h) in
      (r.0, λ s. (let t = eq-eqb b k s in let u : false ≡ true = sym r.1 ∙ t in cc))

  pub marks_set : b < length old → AreMarkedBy turn q old (set new b turn)
  marks_set l =
      let long = m.long in
      let lb : b < length new = omega (arith, long) in
      record {
        long = length-set new b turn ∙ m.long;
        within = λ k h. (let s = length-set new b turn in elim (passed k h) [
          | inl t ↦ (let w = m.within k t in omega (arith, w, s))
          | inr t ↦ omega (arith, s, t)
        ]);
        marked = λ k h. (elim (cases_eq k b) [
          | inl s ↦ subst (λ n. get_or (set new b turn) n 0 ≡ turn) (sym s) (get_or-set_same new b turn 0 lb)
          | inr s ↦ get_or-set_other new b k turn 0 s ∙ (elim (passed k h) [ inl t ↦ m.marked k t | inr t ↦ absurd (s (sym t)) ])
        ]);
        left = λ k h. (let r = not_passed k h in get_or-set_other new b k turn 0 (λ s. r.1 (sym s)) ∙ m.left k r.0);
      }

  pub marks_kept : b < length old → get_or new b 0 ≡ turn → AreMarkedBy turn q old new
  marks_kept l t = record {
    long = m.long;
    within = λ k h. (elim (passed k h) [ inl u ↦ m.within k u | inr u ↦ (let long = m.long in omega (arith, long, u)) ]);
    marked = λ k h. (elim (passed k h) [ inl u ↦ m.marked k u | inr u ↦ subst (λ n. get_or new n 0 ≡ turn) u t ]);
    left = λ k h. m.left k (not_passed k h).0;
  }

pub marks_none : (turn : ℕ) (p : ℕ → Bool) (marks : List ℕ) → ((k : ℕ) → p k ≡ false) → AreMarkedBy turn p marks marks
marks_none turn p marks n = record {
  long = refl;
  within = λ k h. absurd (let e : false ≡ true = sym (n k) ∙ h in cc);
  marked = λ k h. absurd (let e : false ≡ true = sym (n k) ∙ h in cc);
  left = λ k h. refl;
}

-- ---- nodes one after the other

pub marks_joined : (turn : ℕ) (p q r : ℕ → Bool) (old middle new : List ℕ) → AreMarkedBy turn p old middle → AreMarkedBy turn q middle new
    → ((k : ℕ) → r k ≡ (p k || q k)) → AreMarkedBy turn r old new
marks_joined turn p q r old middle new a b e = record {
  long = b.long ∙ a.long;
  within = λ k h. (let long = b.long in elim (or_cases (p k) (q k) (sym (e k) ∙ h)) [ inl t ↦ (let w = a.within k t in omega (arith, w, long)) | inr t ↦ b.within k t ]);
  marked = λ k h. (elim (cases_Bool (q k)) [
    | inl t ↦ b.marked k t
    | inr t ↦ b.left k t ∙ (elim (or_cases (p k) (q k) (sym (e k) ∙ h)) [ inl u ↦ a.marked k u | inr u ↦ absurd (let v : false ≡ true = sym t ∙ u in cc) ])
  ]);
  left = λ k h. (let s = or_parts (p k) (q k) (sym (e k) ∙ h) in b.left k s.1 ∙ a.left k s.0);
}

pub marks_alike : (turn : ℕ) (p q : ℕ → Bool) (old new : List ℕ) → ((k : ℕ) → q k ≡ p k) → AreMarkedBy turn p old new → AreMarkedBy turn q old new
marks_alike turn p q old new e m = record {
  long = m.long;
  within = λ k h. m.within k (sym (e k) ∙ h);
  marked = λ k h. m.marked k (sym (e k) ∙ h);
  left = λ k h. m.left k (sym (e k) ∙ h);
}

-- ---- the first nodes of a list

-- the first nodes of a list have marks, and so many had none
pub record AreMarkedTo (turn : ℕ) (list old new : List ℕ) (fresh i : ℕ) : Type 0 where
  pub marked : AreMarkedBy turn (has (take i list)) old new
  pub fresh_is : fresh ≡ count_fresh old turn (take i list)

pub marked_first : (turn : ℕ) (list marks : List ℕ) → AreMarkedTo turn list marks marks 0 0
marked_first turn list marks = record { marked = marks_none turn (has []) marks (λ k. refl); fresh_is = refl }

-- a number of a list that rises does not stand before itself
not_before : (list : List ℕ) (i : ℕ) → IsStrictlyIncreasing list → i < length list → has (take i list) (get_or list i 0) ≡ false
not_before list i s l = false_from_ne_true (has (take i list) (get_or list i 0)) (λ h.
    (let c = contains-from_has (take i list) (get_or list i 0) h in
    let n = length-take i list in
    let w = c.1 in
    let below : c.0 < i = omega (arith, n, w) in
    let e : get_or list c.0 (get_or list i 0) ≡ get_or list i 0 = sym (get_or-take i list c.0 (get_or list i 0) below) ∙ c.2 in
    let f = get_or_default list c.0 (get_or list i 0) 0 (omega (arith, below)) in
    let g = AllPairs-from_increasing list s c.0 i 0 below l in
    omega (arith, e, f, g)))

module _ (turn : ℕ) (list old new : List ℕ) (fresh i : ℕ) (s : IsStrictlyIncreasing list) (w : All (λ b. b < length old) list) (l : i < length list)
    (m : AreMarkedTo turn list old new fresh i) where
  unmarked : get_or new (get_or list i 0) 0 ≡ get_or old (get_or list i 0) 0
  unmarked = m.marked.left (get_or list i 0) (not_before list i s l)

  more : (k : ℕ) → has (take (i + 1) list) k ≡ (has (take i list) k || (get_or list i 0 == k))
  more k = list_any_more (λ x. x == k) list i 0 l

  pub next_fresh : (get_or new (get_or list i 0) 0 ≡ turn → ⊥) → AreMarkedTo turn list old (set new (get_or list i 0) turn) (fresh + 1) (i + 1)
  next_fresh n = record {
    marked = marks_set turn (has (take i list)) (has (take (i + 1) list)) old new (get_or list i 0) m.marked more (w i 0 l);
    fresh_is =
        let f : is_fresh old turn (get_or list i 0) ≡ true = not_from_false _ (ne_eqb _ turn (λ e. n (unmarked ∙ e))) in
        let e = m.fresh_is in
        let p = length-filter_more (is_fresh old turn) list i 0 l in
        let t = cond-true {A = ℕ} (is_fresh old turn (get_or list i 0)) 1 0 f in
        omega (arith, e, p, t);
  }

  pub next_met : get_or new (get_or list i 0) 0 ≡ turn → AreMarkedTo turn list old new fresh (i + 1)
  next_met n = record {
    marked = marks_kept turn (has (take i list)) (has (take (i + 1) list)) old new (get_or list i 0) m.marked more (w i 0 l) n;
    fresh_is =
        let f : is_fresh old turn (get_or list i 0) ≡ false = not_from_true _ (eq-eqb _ turn (sym unmarked ∙ n)) in
        let e = m.fresh_is in
        let p = length-filter_more (is_fresh old turn) list i 0 l in
        let t = cond-false {A = ℕ} (is_fresh old turn (get_or list i 0)) 1 0 f in
        omega (arith, e, p, t);
  }

pub marked_all : (turn : ℕ) (list old new : List ℕ) (fresh i : ℕ) → length list ≤ i → AreMarkedTo turn list old new fresh i
    → AreMarkedBy turn (has list) old new × (fresh ≡ count_fresh old turn list)
marked_all turn list old new fresh i l m =
    let e = take_all i list l in
    (subst (λ xs. AreMarkedBy turn (has xs) old new) e m.marked, m.fresh_is ∙ ap (λ xs. count_fresh old turn xs) e)

pub fresh_bound : (turn : ℕ) (list old new : List ℕ) (fresh i : ℕ) → AreMarkedTo turn list old new fresh i → fresh ≤ i
fresh_bound turn list old new fresh i m =
    let e = m.fresh_is in
    let f = length-filter_all (is_fresh old turn) (take i list) in
    let n = length-take i list in
    omega (arith, e, f, n)
