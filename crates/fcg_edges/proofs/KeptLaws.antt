-- The lists that a caller uses.
use Rattle.std.proofs.Common.{◌≡◌, ℕ, ◌+◌, ◌<◌, ◌≤◌, List, [], ◌∷◌, ◌++◌, length, get_or, take, refl, sym, ap, subst, ◌∙◌, inl, inr, arith, eq-eqb}
use Rattle.std.specs.Prelude.{Bool, true, false, ◌||◌, ◌==◌, nat_lt, All, Contains, filter, flat_map}
use Rattle.std.specs.Cmp.{both_ways}
use Rattle.std.proofs.lemmas.Bool.{eqb-true, or_cases, or_parts, or_left, or_right, cases_Bool, false_from_ne_true, not-false, not_from_true, ltb-false}
use Rattle.std.proofs.lemmas.List.{take_all}
use Rattle.std.proofs.lemmas.List.Elements.{All-push, All-contains, All-contains_itself, All-nil}
use Rattle.std.proofs.lemmas.List.Folds.{list_any-append, list_any_more, list_any_at}
use Rattle.std.proofs.lemmas.List.Quantifiers.{all_pairs_push}
use Rattle.std.specs.List.Sorted.{IsPermutation}
use Rattle.std.proofs.lemmas.List.Sorted.{list_any-IsPermutation}
use Rattle.fcg_analysis.proofs.General.Members.{IsIn-from_Contains, Contains-from_IsIn, filter_in, length-filter_less}
use Rattle.fcg_order.specs.Links.{row}
use Rattle.fcg_edges.specs.Rows.{has, any_has}
use Rattle.fcg_edges.specs.Internal.Tables.{AreApart}
use Rattle.fcg_edges.specs.Internal.Making.{AreMarkedBy, AreKept, AreUses, is_fresh, count_fresh}
use Rattle.fcg_edges.proofs.RowSizes.{contains-from_has, has-from_contains}
use Rattle.fcg_edges.proofs.MarkLaws.{marks_none, marks_joined}

-- ---- how many of a list have no mark

none_fresh : (p : ℕ → Bool) (xs : List ℕ) (b : ℕ) → length (filter p xs) ≡ 0 → Contains xs b → p b ≡ false
none_fresh p xs b e c = false_from_ne_true (p b) (λ t.
    (let d = Contains-from_IsIn (filter p xs) b (filter_in p xs b (IsIn-from_Contains xs b c) t) in let w = d.1 in omega (arith, e, w)))

all_fresh : (p : ℕ → Bool) (xs : List ℕ) (b : ℕ) → length xs ≤ length (filter p xs) → Contains xs b → p b ≡ false → ⊥
all_fresh p xs b l c f = let m = length-filter_less p xs b (IsIn-from_Contains xs b c) f in omega (arith, l, m)

-- ---- the first of the lists

-- the lists that are kept of the first ones, and the marks of their targets
pub record AreKeptTo (lists : List (List ℕ)) (turn : ℕ) (uses old marks kept : List ℕ) (overlap : Bool) (i : ℕ) : Type 0 where
  pub lists_kept : AreKept lists (take i uses) kept overlap
  pub marked : AreMarkedBy turn (any_has lists (take i uses)) old marks

pub kept_first : (lists : List (List ℕ)) (turn : ℕ) (uses old : List ℕ) → AreKeptTo lists turn uses old old [] false 0
kept_first lists turn uses old = record {
  lists_kept = record { there = All-nil (λ l. l < length lists); same = λ b. refl; apart = λ e i j d lt within. absurd (omega arith) };
  marked = marks_none turn (any_has lists []) old (λ k. refl);
}

module _ (lists : List (List ℕ)) (turn : ℕ) (uses old marks new kept : List ℕ) (overlap : Bool) (i fresh : ℕ) (l : i < length uses)
    (there : All (λ l. l < length lists) uses) (unmarked : All (λ mark. mark < turn) old) (below : All (λ b. b < length marks) (row lists (get_or uses i 0)))
    (h : AreKeptTo lists turn uses old marks kept overlap i)
    (m : AreMarkedBy turn (has (row lists (get_or uses i 0))) marks new) (f : fresh ≡ count_fresh marks turn (row lists (get_or uses i 0))) where
  list : List ℕ
  list = row lists (get_or uses i 0)

  more : (b : ℕ) → any_has lists (take (i + 1) uses) b ≡ (any_has lists (take i uses) b || has (row lists (get_or uses i 0)) b)
  more b = list_any_more (λ l. has (row lists l) b) uses i 0 l

  marked_next : AreMarkedBy turn (any_has lists (take (i + 1) uses)) old new
  marked_next = marks_joined turn (any_has lists (take i uses)) (has (row lists (get_or uses i 0))) (any_has lists (take (i + 1) uses)) old marks new h.marked m more

  -- a target that has the mark is one of an earlier list
  met_before : (b : ℕ) → b < length marks → get_or marks b 0 ≡ turn → any_has lists (take i uses) b ≡ true
  met_before b w e =
      elim (cases_Bool (any_has lists (take i uses) b)) [
        | inl t ↦ t
        | inr t ↦ absurd (
            let s = h.marked.left b t in
            let long = h.marked.long in
            let u = unmarked b 0 (omega (arith, long, w)) in
            omega (arith, s, e, u))
      ]

  pub none_kept : fresh ≡ 0 → AreKeptTo lists turn uses old new kept overlap (i + 1)
  none_kept z = record {
    lists_kept = record {
      there = h.lists_kept.there;
      same = λ b. h.lists_kept.same b ∙ both_ways (any_has lists (take i uses) b) (any_has lists (take (i + 1) uses) b)
          (λ t. more b ∙ or_left (any_has lists (take i uses) b) (has (row lists (get_or uses i 0)) b) t)
          (λ t. (elim (or_cases (any_has lists (take i uses) b) (has (row lists (get_or uses i 0)) b) (sym (more b) ∙ t)) [
            | inl u ↦ u
            | inr u ↦ (let c = contains-from_has (row lists (get_or uses i 0)) b u in
                let n = none_fresh (is_fresh marks turn) (row lists (get_or uses i 0)) b (sym f ∙ z) c in
                met_before b (All-contains (λ b. b < length marks) (row lists (get_or uses i 0)) b below c) (eqb-true (get_or marks b 0) turn (not-false _ n)))
          ]));
      apart = h.lists_kept.apart;
    };
    marked = marked_next;
  }

  apart_from_kept : length (row lists (get_or uses i 0)) ≤ fresh → (k : ℕ) (d : ℕ) → k < length kept → AreApart (row lists (get_or kept k d)) (row lists (get_or uses i 0))
  apart_from_kept w k d lt b x y =
      let t : any_has lists kept b ≡ true = list_any_at (λ l. has (row lists l) b) kept k d lt (has-from_contains (row lists (get_or kept k d)) b x) in
      let s : get_or marks b 0 ≡ turn = h.marked.marked b (sym (h.lists_kept.same b) ∙ t) in
      all_fresh (is_fresh marks turn) (row lists (get_or uses i 0)) b (omega (arith, w, f)) y (not_from_true _ (eq-eqb _ turn s))

  pub one_kept : AreKeptTo lists turn uses old new (kept ++ get_or uses i 0 ∷ []) (overlap || nat_lt fresh (length (row lists (get_or uses i 0)))) (i + 1)
  one_kept = record {
    lists_kept = record {
      there = All-push (λ l. l < length lists) kept (get_or uses i 0) h.lists_kept.there (there i 0 l);
      same = λ b. list_any-append (λ l. has (row lists l) b) kept (get_or uses i 0 ∷ [])
          ∙ both_ways (any_has lists kept b || (has (row lists (get_or uses i 0)) b || false)) (any_has lists (take i uses) b || has (row lists (get_or uses i 0)) b)
          (λ t. (elim (or_cases (any_has lists kept b) (has (row lists (get_or uses i 0)) b || false) t) [
            | inl u ↦ or_left (any_has lists (take i uses) b) _ (sym (h.lists_kept.same b) ∙ u)
            | inr u ↦ or_right (any_has lists (take i uses) b) _ (elim (or_cases (has (row lists (get_or uses i 0)) b) false u) [ inl v ↦ v | inr v ↦ absurd (cc) ])
          ]))
          (λ t. (elim (or_cases (any_has lists (take i uses) b) (has (row lists (get_or uses i 0)) b) t) [
            | inl u ↦ or_left (any_has lists kept b) _ (h.lists_kept.same b ∙ u)
            | inr u ↦ or_right (any_has lists kept b) _ (or_left (has (row lists (get_or uses i 0)) b) false u)
          ]))
          ∙ sym (more b);
      apart = λ e. (let r = or_parts overlap (nat_lt fresh (length (row lists (get_or uses i 0)))) e in
          all_pairs_push (λ l m. AreApart (row lists l) (row lists m)) kept (get_or uses i 0) (h.lists_kept.apart r.0) (apart_from_kept (ltb-false fresh (length (row lists (get_or uses i 0))) r.1)));
    };
    marked = marked_next;
  }

pub kept_all : (lists : List (List ℕ)) (turn : ℕ) (uses old marks kept : List ℕ) (overlap : Bool) (i : ℕ) → length uses ≤ i → AreKeptTo lists turn uses old marks kept overlap i
    → AreMarkedBy turn (any_has lists uses) old marks × AreKept lists uses kept overlap
kept_all lists turn uses old marks kept overlap i l h =
    let e = take_all i uses l in
    (subst (λ us. AreMarkedBy turn (any_has lists us) old marks) e h.marked, subst (λ us. AreKept lists us kept overlap) e h.lists_kept)

-- ---- lists that are joined

pub has-flat_map : (lists : List (List ℕ)) (uses : List ℕ) (b : ℕ) → has (flat_map (row lists) uses) b ≡ any_has lists uses b
has-flat_map lists [] b = refl
has-flat_map lists (l ∷ uses) b = list_any-append (λ x. x == b) (row lists l) (flat_map (row lists) uses) ∙ ap (λ t. has (row lists l) b || t) (has-flat_map lists uses b)

pub all_of_same : (n : ℕ) (xs ys : List ℕ) → ((b : ℕ) → has ys b ≡ has xs b) → All (λ b. b < n) xs → All (λ b. b < n) ys
all_of_same n xs ys s a k d lt =
    let x = get_or ys k d in
    All-contains (λ b. b < n) xs x a (contains-from_has xs x (sym (s x) ∙ has-from_contains ys x (All-contains_itself ys k d lt)))

-- lists that have no target in common stay as they are
pub kept_uses : (lists : List (List ℕ)) (uses kept : List ℕ) → AreKept lists uses kept false → AreUses lists lists uses kept
kept_uses lists uses kept k = record { there = k.there; same = k.same; apart = k.apart refl }

-- lists with the targets of others, in place of those
pub other_uses : (old new : List (List ℕ)) (uses middle kept : List ℕ) → ((b : ℕ) → any_has old middle b ≡ any_has old uses b) → AreUses old new middle kept → AreUses old new uses kept
other_uses old new uses middle kept s u = record { there = u.there; same = λ b. u.same b ∙ s b; apart = u.apart }

-- lists in another order
pub uses_moved : (lists : List (List ℕ)) (uses moved same : List ℕ) → IsPermutation uses moved → same ≡ moved → (b : ℕ) → any_has lists same b ≡ any_has lists uses b
uses_moved lists uses moved same m e b = ap (λ (us : List ℕ). any_has lists us b) e ∙ sym (list_any-IsPermutation (λ l. has (row lists l) b) uses moved m)
