-- The numbers of the elements that pass a test, and lists of numbers that rise.
use Rattle.std.proofs.Common.{◌≡◌, ℕ, zero, suc, ◌+◌, ◌<◌, ◌≤◌, List, [], ◌∷◌, length, eqb, refl, ap, ◌∙◌, arith}
use Rattle.std.specs.Prelude.{Bool, true, false, cond, Option, Some, None, option_map, find, filter, map, slice_get, Contains}
use Rattle.std.specs.List.{range_with_len}
use Rattle.std.specs.List.Sorted.{IsStrictlySortedBy, IsStrictlyIncreasing}
use Rattle.std.specs.declared.cmp.Ordering.TheVariants.{Less, Equal, Greater}
use Rattle.std.specs.Ordering.{nat_cmp}
use Rattle.std.proofs.lemmas.Bool.{lt-ltb}
use Rattle.std.proofs.lemmas.Cmp.{nat_cmp_total}
use Rattle.std.proofs.lemmas.List.Kept.{IsStrictlySortedBy-filter}
use Rattle.std.proofs.lemmas.Map.Keys.{sorted_from_strictly_increasing, IsStrictlyIncreasing-from_sorted}
use Rattle.std.proofs.lemmas.Option.{slice_get_within}
use Rattle.fcg_analysis.specs.NamesAndFlags.{first_of_list, one}
use Rattle.fcg_analysis.proofs.General.Members.{IsIn-from_Contains, Contains-from_IsIn, filter_in, in_filter}
use Rattle.fcg_analysis.proofs.General.Ranges.{range_in, in_range}
use Rattle.fcg_analysis.proofs.General.Sorted.{all_from_in, one_sorted}

-- ---- numbers that rise

range_sorted : (a n : ℕ) → IsStrictlySortedBy nat_cmp (range_with_len a n)
unfolding IsStrictlySortedBy
range_sorted a zero = tt
range_sorted a (suc n) = (
  all_from_in (λ k. nat_cmp a k ≡ Less) (range_with_len (a + 1) n) (λ k h.
      let r : (a + 1 ≤ k) × (k < a + 1 + n) = in_range (a + 1) n k h in
      let l : a < k = omega (arith, r.0) in
      ap (λ b. cond b Less (cond (eqb a k) Equal Greater)) (lt-ltb a k l)),
  range_sorted (a + 1) n,
)

pub range_rises : (a n : ℕ) → IsStrictlyIncreasing (range_with_len a n)
range_rises a n = IsStrictlyIncreasing-from_sorted (range_with_len a n) (range_sorted a n)

-- a list that rises and has the numbers below n that pass is the filter of these
pub rising_is_filter : (n : ℕ) (p : ℕ → Bool) (ks : List ℕ) → IsStrictlyIncreasing ks
    → ((k : ℕ) → Contains ks k → (k < n) × (p k ≡ true)) → ((k : ℕ) → k < n → p k ≡ true → Contains ks k) → ks ≡ filter p (range_with_len 0 n)
rising_is_filter n p ks s f g =
    one_sorted nat_cmp nat_cmp_total ks (filter p (range_with_len 0 n)) (sorted_from_strictly_increasing ks s) (IsStrictlySortedBy-filter nat_cmp p (range_with_len 0 n) (range_sorted 0 n))
    (λ k h. let r = f k (Contains-from_IsIn ks k h) in filter_in p (range_with_len 0 n) k (range_in 0 n k (omega arith) (omega (arith, r.0))) r.1)
    (λ k h.
    let r = in_filter p (range_with_len 0 n) k h in
    let l : (0 ≤ k) × (k < 0 + n) = in_range 0 n k r.0 in
    IsIn-from_Contains ks k (g k (omega (arith, l.1)) r.1))

-- ---- the elements at numbers

-- there is an element, and it passes
abbrev pub passes : {X : Type 0} → (X → Bool) → Option X → Bool
passes p None = false
passes p (Some x) = p x

pub passes_some : {X : Type 0} (p : X → Bool) (o : Option X) → passes p o ≡ true → (x : X) × (o ≡ Some x) × (p x ≡ true)
passes_some p None h = absurd (cc)
passes_some p (Some x) h = (x, refl, h)

passing_from : {X : Type 0} (get : ℕ → Option X) (p : X → Bool) (a : ℕ) (xs : List X) → ((k : ℕ) → get (a + k) ≡ slice_get xs k)
    → map get (filter (λ k. passes p (get k)) (range_with_len a (length xs))) ≡ map Some (filter p xs)
passing_from get p a [] h = refl
passing_from {X} get p a (x ∷ xs) h =
    ap (λ o. map get (cond (passes p o) (a ∷ filter (λ k. passes p (get k)) (range_with_len (a + 1) (length xs))) (filter (λ k. passes p (get k)) (range_with_len (a + 1) (length xs))))) here
    ∙ at (p x) (passing_from get p (a + 1) xs (λ k. (let e : a + 1 + k ≡ a + suc k = omega arith in ap get e ∙ h (suc k))))
  where
    here : get a ≡ Some x
    here = let e : a ≡ a + 0 = omega arith in ap get e ∙ h 0

    at : (b : Bool) → map get (filter (λ k. passes p (get k)) (range_with_len (a + 1) (length xs))) ≡ map Some (filter p xs)
        → map get (cond b (a ∷ filter (λ k. passes p (get k)) (range_with_len (a + 1) (length xs))) (filter (λ k. passes p (get k)) (range_with_len (a + 1) (length xs)))) ≡ map Some (cond b (x ∷ filter p xs) (filter p xs))
    at true r = λ i. here i ∷ r i
    at false r = r

-- the numbers of the elements that pass are those elements, in order
pub passing : {X : Type 0} (p : X → Bool) (xs : List X) → map (slice_get xs) (filter (λ k. passes p (slice_get xs k)) (range_with_len 0 (length xs))) ≡ map Some (filter p xs)
passing p xs = passing_from (slice_get xs) p 0 xs (λ k. (let e : 0 + k ≡ k = omega arith in ap (slice_get xs) e))

-- numbers that rise, and are those of the elements that pass
pub rising_passing : {X : Type 0} (p : X → Bool) (xs : List X) (ks : List ℕ) → IsStrictlyIncreasing ks
    → ((k : ℕ) → Contains ks k → passes p (slice_get xs k) ≡ true) → ((k : ℕ) (x : X) → slice_get xs k ≡ Some x → p x ≡ true → Contains ks k)
    → map (slice_get xs) ks ≡ map Some (filter p xs)
rising_passing p xs ks s f g =
    ap (map (slice_get xs)) (rising_is_filter (length xs) (λ k. passes p (slice_get xs k)) ks s
    (λ k c. (let h = f k c in let x = passes_some p (slice_get xs k) h in (slice_get_within xs k x.0 x.1, h)))
    (λ k l h. (let x = passes_some p (slice_get xs k) h in g k x.0 x.1 x.2)))
    ∙ passing p xs

-- ---- the first that passes

pub first_passing : {X : Type 0} (p : X → Bool) (xs : List X) → first_of_list (filter p xs) ≡ find p xs
first_passing p [] = refl
first_passing {X} p (x ∷ xs) = at (p x) (first_passing p xs)
  where
    at : (b : Bool) → first_of_list (filter p xs) ≡ find p xs → first_of_list (cond b (x ∷ filter p xs) (filter p xs)) ≡ cond b (Some x) (find p xs)
    at true r = refl
    at false r = r

pub first_map : {X Y : Type 0} (f : X → Y) (xs : List X) → option_map f (first_of_list xs) ≡ first_of_list (map f xs)
first_map f [] = refl
first_map f (x ∷ xs) = refl

pub one_map : {X Y : Type 0} (f : X → Y) (xs : List X) → option_map f (one xs) ≡ one (map f xs)
one_map f [] = refl
one_map f (x ∷ []) = refl
one_map f (x ∷ y ∷ xs) = refl
