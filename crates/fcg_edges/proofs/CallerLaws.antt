-- A caller more, with marks of what its lists have.
use Rattle.std.proofs.Common.{◌≡◌, ℕ, ◌+◌, ◌<◌, ◌≤◌, List, ◌++◌, length, get_or, take, drop, sym, ap, subst, ◌∙◌, inl, inr, arith, eq-eqb}
use Rattle.std.specs.Prelude.{Bool, true, false, not, ◌&&◌, ◌||◌, ◌==◌, nat_lt, All}
use Rattle.std.specs.Cmp.{both_ways}
use Rattle.std.specs.List.Sorted.{IsStrictlyIncreasing}
use Rattle.std.proofs.lemmas.Bool.{eqb-true, or_cases, or_left, or_right, cases_Bool, and_from, and_parts, false_from_ne_true, ltb-true, lt-ltb, not-true, not_from_false}
use Rattle.std.proofs.lemmas.List.{get_or_default, take_at}
use Rattle.fcg_analysis.proofs.General.Members.{IsIn-from_Contains, any_in}
use Rattle.fcg_order.specs.Links.{row}
use Rattle.fcg_edges.specs.Rows.{Rows, IsWithCaller, leads, has, any_has}
use Rattle.fcg_edges.specs.Internal.Tables.{IsRow, AreMarks}
use Rattle.fcg_edges.specs.Internal.Making.{AreWithLists, AreUses, AreMarkedBy, met}
use Rattle.fcg_edges.proofs.RowSizes.{contains-from_has, has-from_contains}

-- what a slice of all elements of a Vec leaves there
pub written_back : (n : ℕ) (new old : List ℕ) → length new ≡ n → take n (new ++ drop (length new) old) ≡ new
written_back n new old e = take_at new (drop (length new) old) n e

-- ---- the marks of a turn

module _ (turn : ℕ) (passes : ℕ → Bool) (old new : List ℕ) (m : AreMarkedBy turn passes old new) where
  pub met_passed : (b : ℕ) → passes b ≡ true → met new turn b ≡ true
  met_passed b t = and_from (nat_lt b (length new)) (get_or new b 0 == turn) (lt-ltb b (length new) (m.within b t)) (eq-eqb (get_or new b 0) turn (m.marked b t))

  pub passed_met : All (λ mark. mark < turn) old → (b : ℕ) → met new turn b ≡ true → passes b ≡ true
  passed_met u b t =
      let p = and_parts (nat_lt b (length new)) (get_or new b 0 == turn) t in
      elim (cases_Bool (passes b)) [
        | inl q ↦ q
        | inr q ↦ absurd (
            let w = ltb-true b (length new) p.0 in
            let long = m.long in
            let l = m.left b q in
            let e = eqb-true (get_or new b 0) turn p.1 in
            let less = u b 0 (omega (arith, w, long)) in
            omega (arith, l, e, less))
      ]

  pub marks_next : (n : ℕ) → turn ≤ n → All (λ mark. mark ≤ n) old → All (λ mark. mark ≤ n) new
  marks_next n t a i d lt =
      let e = get_or_default new i d 0 lt in
      let long = m.long in
      elim (cases_Bool (passes i)) [
        | inl q ↦ (let s = m.marked i q in omega (arith, e, s, t))
        | inr q ↦ (let s = m.left i q in let o = a i 0 (omega (arith, long, lt)) in omega (arith, e, s, o))
      ]

pub unmarked_before : (turn : ℕ) (old : Rows) (marks : List ℕ) → AreMarks old marks → turn ≡ length old.targets + 1 → All (λ mark. mark < turn) marks
unmarked_before turn old marks a t i d lt = let h = a.turns i d lt in omega (arith, h, t)

pub next_marks : (turn : ℕ) (passes : ℕ → Bool) (old middle last : Rows) (marks new own kept : List ℕ) → AreWithLists old middle → AreMarkedBy turn passes marks new
    → IsWithCaller middle last own kept → AreMarks old marks → turn ≡ length old.targets + 1 → AreMarks last new
next_marks turn passes old middle last marks new own kept lists m w a t =
    let long : length middle.targets ≡ length old.targets = ap (λ (ts : List (List ℕ)). length ts) lists.callers in
    let more = w.callers in
    record {
      long = m.long ∙ a.long ∙ sym (w.count ∙ lists.count);
      turns = marks_next turn passes marks new m (length last.targets) (omega (arith, long, more, t)) (λ k d lt. (let h = a.turns k d lt in omega (arith, h, long, more)));
    }

-- ---- the next caller

module _ (old middle : Rows) (targets uses own kept marks new : List ℕ) (turn : ℕ) (lists : AreWithLists old middle) (u : AreUses old.lists middle.lists uses kept)
    (m : AreMarkedBy turn (any_has old.lists uses) marks new) (same : (b : ℕ) → has own b ≡ (has targets b && not (met new turn b))) where
  pub caller_row : IsStrictlyIncreasing own → All (λ b. b < old.count) targets → IsRow middle.count middle.lists own kept
  caller_row rise below = record {
    rise = record { rise = rise; below = subst (λ n. All (λ b. b < n) own) (sym lists.count) under };
    there = u.there;
    apart = u.apart;
    own = λ l c b x y. (
        let t : any_has middle.lists kept b ≡ true = any_in (λ l. has (row middle.lists l) b) kept l (IsIn-from_Contains kept l c) (has-from_contains (row middle.lists l) b y) in
        let v = met_passed turn (any_has old.lists uses) marks new m b (sym (u.same b) ∙ t) in
        let w = and_parts (has targets b) (not (met new turn b)) (sym (same b) ∙ has-from_contains own b x) in
        let n : met new turn b ≡ false = not-true (met new turn b) w.1 in
        let e : true ≡ false = sym v ∙ n in cc);
  }
    where
      under : All (λ b. b < old.count) own
      under k d lt =
          let x = get_or own k d in
          let h = has-from_contains own x (k, lt, get_or_default own k x d lt) in
          let c = contains-from_has targets x (and_parts (has targets x) (not (met new turn x)) (sym (same x) ∙ h)).0 in
          let b = below c.0 x c.1 in
          subst (λ (n : ℕ). n < old.count) c.2 b

  -- what the lists have, and the targets that they do not have
  all_targets : All (λ mark. mark < turn) marks → (b : ℕ) → (has own b || any_has middle.lists kept b) ≡ (has targets b || any_has old.lists uses b)
  all_targets unmarked b = both_ways (has own b || any_has middle.lists kept b) (has targets b || any_has old.lists uses b)
      (λ t. (elim (or_cases (has own b) (any_has middle.lists kept b) t) [
        | inl x ↦ or_left (has targets b) (any_has old.lists uses b) (and_parts (has targets b) (not (met new turn b)) (sym (same b) ∙ x)).0
        | inr x ↦ or_right (has targets b) (any_has old.lists uses b) (sym (u.same b) ∙ x)
      ]))
      (λ t. (elim (cases_Bool (any_has old.lists uses b)) [
        | inl x ↦ or_right (has own b) (any_has middle.lists kept b) (u.same b ∙ x)
        | inr x ↦ (elim (or_cases (has targets b) (any_has old.lists uses b) t) [
          | inl y ↦ or_left (has own b) (any_has middle.lists kept b)
              (same b ∙ and_from (has targets b) (not (met new turn b)) y (not_from_false (met new turn b) (false_from_ne_true (met new turn b) (λ v.
              (let w = passed_met turn (any_has old.lists uses) marks new m unmarked b v in let e : true ≡ false = sym w ∙ x in cc)))))
          | inr y ↦ absurd (let e : true ≡ false = sym y ∙ x in cc)
        ])
      ]))

  pub with_caller : (last : Rows) → All (λ mark. mark < turn) marks → IsWithCaller middle last own kept → IsWithCaller old last targets uses
  with_caller last unmarked w =
      let long : length middle.targets ≡ length old.targets = ap (λ (ts : List (List ℕ)). length ts) lists.callers in
      record {
        count = w.count ∙ lists.count;
        callers = (let e = w.callers in omega (arith, e, long));
        more_lists = (let x = w.more_lists in let y = lists.more_lists in omega (arith, x, y));
        lists = λ l lt. (let y = lists.more_lists in w.lists l (omega (arith, lt, y)) ∙ lists.lists l lt);
        before = λ a b lt. w.before a b (omega (arith, lt, long)) ∙ lists.before a b lt;
        caller = λ b. (ap (λ (n : ℕ). leads last n b) (sym long) ∙ w.caller b ∙ all_targets unmarked b);
      }
