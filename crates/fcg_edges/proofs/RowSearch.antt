-- Searches in rows that rise.
use Rattle.std.proofs.Common.{◌≡◌, ℕ, zero, suc, ◌<◌, ◌≤◌, List, [], ◌∷◌, length, get_or, ltb, leb, Bor, sym, ap, subst, ◌∙◌, arith, inl, inr}
use Rattle.std.specs.Prelude.{Bool, true, false, cond, Contains, filter, MatchResult, Result, Ok, Err, is_ok, Option, Some, None, is_some, IfSome}
use Rattle.std.specs.List.Sorted.{IsStrictlyIncreasing, IsNonDecreasingBy, IsPartitionPoint, IsBinarySearchResult}
use Rattle.std.specs.Option.{option_copied}
use Rattle.std.specs.Ordering.{nat_cmp}
use Rattle.std.proofs.lemmas.Bool.{cases_eq, cases_lt, false_from_ne_true, leb-true, leb-false, ltb-true, ltb-false}
use Rattle.std.proofs.lemmas.List.{get_or_default}
use Rattle.std.proofs.lemmas.List.Kept.{AllPairs-from_increasing}
use Rattle.std.proofs.lemmas.List.Sorted.{searched}
use Rattle.fcg_edges.specs.Rows.{has}
use Rattle.fcg_edges.specs.Internal.Counts.{count_to, IsNext}
use Rattle.fcg_edges.proofs.RowSizes.{contains-from_has, has-from_contains}
use Rattle.fcg_edges.proofs.TargetCounts.{count_of_rising}

pub rising_row : (ks : List ℕ) → IsStrictlyIncreasing ks → IsNonDecreasingBy (λ k. k) ks
rising_row ks up i j d a b = elim (cases_eq i j) [
  | inl e ↦ (let q = ap (λ k. get_or ks k d) e in omega arith)
  | inr ne ↦ (let q = AllPairs-from_increasing ks up i j d (omega arith) b in omega arith)
]

-- ---- whether a number is there

pub found_in_row : (numbers : List ℕ) (n : ℕ) (r : Result ℕ ℕ) → IsStrictlyIncreasing numbers → IsBinarySearchResult (λ y. nat_cmp y n) numbers r → is_ok r ≡ has numbers n
found_in_row numbers n r up h = at r (searched numbers n r h (λ i j a b. rising_row numbers up i j 0 a b))
  where
    at : (r : Result ℕ ℕ) → MatchResult r (λ i. (i < length numbers) × (get_or numbers i 0 ≡ n)) (λ i. (i ≤ length numbers) × ((k : ℕ) → k < i → get_or numbers k 0 < n) × ((k : ℕ) → i ≤ k → k < length numbers → n < get_or numbers k 0))
        → is_ok r ≡ has numbers n
    at (Ok i) m = sym (has-from_contains numbers n (i, m.0, get_or_default numbers i n 0 m.0 ∙ m.1))
    at (Err i) m = sym (false_from_ne_true (has numbers n) (λ e. (
        let c = contains-from_has numbers n e in
        let q : get_or numbers c.0 0 ≡ n = get_or_default numbers c.0 0 n c.1 ∙ c.2 in
        elim (cases_lt c.0 i) [
          | inl l ↦ (let a = m.1 c.0 l in absurd (omega arith))
          | inr g ↦ (let a = m.2 c.0 g c.1 in absurd (omega arith))
        ])))

-- ---- how many numbers are below one

-- as many as stand before the point where the test changes
point_count : (p : ℕ → Bool) (xs : List ℕ) (i : ℕ) → i ≤ length xs → ((k : ℕ) → k < i → p (get_or xs k 0) ≡ true) → ((k : ℕ) → i ≤ k → k < length xs → p (get_or xs k 0) ≡ false) → length (filter p xs) ≡ i
point_count p [] i l a b = omega (arith, l)
point_count p (x ∷ xs) zero l a b =
    let rest = point_count p xs zero (omega arith) (λ k m. absurd (omega arith)) (λ k m n. b (suc k) (omega arith) (omega arith)) in
    ap (λ c. length (cond c (x ∷ filter p xs) (filter p xs))) (b 0 (omega arith) (omega arith)) ∙ rest
point_count p (x ∷ xs) (suc i) l a b =
    let rest = point_count p xs i (omega arith) (λ k m. a (suc k) (omega arith)) (λ k m n. b (suc k) (omega arith) (omega arith)) in
    ap (λ c. length (cond c (x ∷ filter p xs) (filter p xs))) (a 0 (omega arith)) ∙ ap suc rest

pub count_at_point : (ks : List ℕ) (b i : ℕ) → IsStrictlyIncreasing ks → i ≤ length ks → IsPartitionPoint (λ k. ltb k b ≡ true) (λ k. ltb k b ≡ false) ks i → i ≡ count_to (has ks) b
count_at_point ks b i s l h =
    sym (point_count (λ k. ltb k b) ks i l (λ k m. h.0 k 0 (omega arith) m) (λ k m n. h.1 k 0 m n)) ∙ count_of_rising ks b s

-- ---- the first number above one

module _ (ks : List ℕ) (b i : ℕ) (s : IsStrictlyIncreasing ks) (h : IsPartitionPoint (λ k. leb k b ≡ true) (λ k. leb k b ≡ false) ks i) where
  after_point : (k : ℕ) → Contains ks k → b < k → (j : ℕ) × (i ≤ j) × (j < length ks) × (get_or ks j 0 ≡ k)
  after_point k c l =
      let q : get_or ks c.0 0 ≡ k = get_or_default ks c.0 0 k c.1 ∙ c.2 in
      elim (cases_lt c.0 i) [
        | inl m ↦ (let a = leb-true (get_or ks c.0 0) b (h.0 c.0 0 (omega arith) m) in absurd (omega arith))
        | inr m ↦ (c.0, m, c.1, q)
      ]

  none_above : length ks ≤ i → IsNext (has ks) b None
  none_above l = λ k m t. (let j = after_point k (contains-from_has ks k t) m in let a = j.1 in let c = j.2 in omega arith)

  first_above : i < length ks → IsNext (has ks) b (Some (get_or ks i 0))
  first_above l = (
    leb-false (get_or ks i 0) b (h.1 i 0 (omega arith) l),
    has-from_contains ks (get_or ks i 0) (i, l, get_or_default ks i (get_or ks i 0) 0 l),
    λ k m t. (let j = after_point k (contains-from_has ks k t) m in let rise = rising_row ks s i j.0 0 j.1 j.2 in let q = j.3 in omega arith),
  )

  -- what is read at the point
  pub next_at_point : (o : Option (Bor ℕ)) → is_some o ≡ ltb i (length ks) → IfSome o (λ x. x.now ≡ get_or ks i x.now) → IsNext (has ks) b (option_copied o)
  next_at_point None e g = none_above (ltb-false i (length ks) (sym e))
  next_at_point (Some x) e g =
      let l = ltb-true i (length ks) (sym e) in
      subst (λ k. IsNext (has ks) b (Some k)) (sym (g ∙ get_or_default ks i x.now 0 l)) (first_above l)
