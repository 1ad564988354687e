-- Counts of the numbers that pass a test, and the places of these numbers among one another.
use Rattle.std.proofs.Common.{◌≡◌, ℕ, zero, suc, ◌+◌, ◌-◌, ◌<◌, ◌≤◌, List, [], ◌∷◌, ◌++◌, length, take, refl, sym, ap, subst, ◌∙◌, arith}
use Rattle.std.specs.Prelude.{Bool, true, false, cond, Some, None, filter, slice_get}
use Rattle.std.specs.List.{range_with_len}
use Rattle.std.proofs.lemmas.List.{length-append}
use Rattle.std.proofs.lemmas.List.Elements.{filter-append}
use Rattle.fcg_analysis.proofs.General.Members.{length-filter_all}
use Rattle.fcg_analysis.proofs.General.Ranges.{length-range}
use Rattle.fcg_edges.specs.Internal.Counts.{count_to, IsNext}

-- ---- numbers in a row, in two parts

pub range_parts : (a m n : ℕ) → range_with_len a (m + n) ≡ range_with_len a m ++ range_with_len (a + m) n
range_parts a zero n =
    let e : zero + n ≡ n = omega arith in
    let f : a ≡ a + zero = omega arith in
    ap (range_with_len a) e ∙ ap (λ k. range_with_len k n) f
range_parts a (suc m) n =
    let e : suc m + n ≡ suc (m + n) = omega arith in
    let f : a + 1 + m ≡ a + suc m = omega arith in
    ap (range_with_len a) e ∙ ap (λ ks. a ∷ ks) (range_parts (a + 1) m n ∙ ap (λ k. range_with_len (a + 1) m ++ range_with_len k n) f)

pub range_more : (n : ℕ) → range_with_len 0 (n + 1) ≡ range_with_len 0 n ++ n ∷ []
range_more n = let e : 0 + n ≡ n = omega arith in range_parts 0 n 1 ∙ ap (λ k. range_with_len 0 n ++ k ∷ []) e

pub take_range : (a n m : ℕ) → m ≤ n → take m (range_with_len a n) ≡ range_with_len a m
take_range a n zero l = refl
take_range a zero (suc m) l = absurd (omega arith)
take_range a (suc n) (suc m) l = ap (λ ks. a ∷ ks) (take_range (a + 1) n m (omega arith))

pub get_range : (a n k : ℕ) → k < n → slice_get (range_with_len a n) k ≡ Some (a + k)
get_range a zero k l = absurd (omega arith)
get_range a (suc n) zero l = let e : a ≡ a + zero = omega arith in ap Some e
get_range a (suc n) (suc k) l = let e : a + 1 + k ≡ a + suc k = omega arith in get_range (a + 1) n k (omega arith) ∙ ap Some e

-- ---- counts

pub count_parts : (p : ℕ → Bool) (a m n : ℕ) → length (filter p (range_with_len a (m + n))) ≡ length (filter p (range_with_len a m)) + length (filter p (range_with_len (a + m) n))
count_parts p a m n =
    ap (λ ks. length (filter p ks)) (range_parts a m n)
    ∙ ap (λ (ks : List ℕ). length ks) (filter-append p (range_with_len a m) (range_with_len (a + m) n))
    ∙ length-append (filter p (range_with_len a m)) (filter p (range_with_len (a + m) n))

one_count : (p : ℕ → Bool) (k : ℕ) → length (filter p (range_with_len k 1)) ≡ cond (p k) 1 0
one_count p k = elim (p k) as (λ b. length (cond b (k ∷ []) []) ≡ cond b 1 0) [ true ↦ refl | false ↦ refl ]

pub count_more : (p : ℕ → Bool) (n : ℕ) → count_to p (n + 1) ≡ count_to p n + cond (p n) 1 0
count_more p n =
    let e : 0 + n ≡ n = omega arith in
    count_parts p 0 n 1 ∙ ap (λ k. count_to p n + k) (ap (λ k. length (filter p (range_with_len k 1))) e ∙ one_count p n)

pub count_within : (p : ℕ → Bool) (n : ℕ) → count_to p n ≤ n
count_within p n = let a = length-filter_all p (range_with_len 0 n) in let b = length-range 0 n in omega arith

none_counted : (p : ℕ → Bool) (a n : ℕ) → ((k : ℕ) → a ≤ k → k < a + n → p k ≡ true → ⊥) → length (filter p (range_with_len a n)) ≡ 0
none_counted p a zero h = refl
none_counted p a (suc n) h = at (p a) refl (none_counted p (a + 1) n (λ k l m t. h k (omega arith) (omega arith) t))
  where
    at : (b : Bool) → p a ≡ b → length (filter p (range_with_len (a + 1) n)) ≡ 0 → length (cond b (a ∷ filter p (range_with_len (a + 1) n)) (filter p (range_with_len (a + 1) n))) ≡ 0
    at true e r = absurd (h a (omega arith) (omega arith) e)
    at false e r = r

-- b passes, and nothing between b and t
pub count_gap : (p : ℕ → Bool) (b t : ℕ) → b < t → p b ≡ true → ((k : ℕ) → b < k → k < t → p k ≡ true → ⊥) → count_to p t ≡ count_to p b + 1
count_gap p b t l e h =
    let m = t - (b + 1) in
    let whole : t ≡ b + 1 + m = omega arith in
    let start : 0 + (b + 1) ≡ b + 1 = omega arith in
    let none : length (filter p (range_with_len (b + 1) m)) ≡ 0 = none_counted p (b + 1) m (λ k i j t. h k (omega arith) (omega arith) t) in
    let rest : length (filter p (range_with_len (0 + (b + 1)) m)) ≡ 0 = ap (λ k. length (filter p (range_with_len k m))) start ∙ none in
    let parts : count_to p t ≡ count_to p (b + 1) + length (filter p (range_with_len (0 + (b + 1)) m)) = ap (count_to p) whole ∙ count_parts p 0 (b + 1) m in
    let one : count_to p (b + 1) ≡ count_to p b + 1 = count_more p b ∙ ap (λ c. count_to p b + cond c 1 0) e in
    omega arith

pub count_next : (p : ℕ → Bool) (b t : ℕ) → p b ≡ true → IsNext p b (Some t) → count_to p t ≡ count_to p b + 1
count_next p b t e h = count_gap p b t h.0 e (λ k i j q. (let l = h.2 k i q in omega arith))

pub count_last : (p : ℕ → Bool) (b n : ℕ) → b < n → p b ≡ true → IsNext p b None → count_to p n ≡ count_to p b + 1
count_last p b n l e h = count_gap p b n l e (λ k i j q. h k i q)

-- the count passes j at a number that passes
pub count_crosses : (p : ℕ → Bool) (low high j : ℕ) → low < high → high ≤ low + 1 → count_to p low ≤ j → j < count_to p high → (p low ≡ true) × (count_to p low ≡ j)
count_crosses p low high j a b l m =
    let e : high ≡ low + 1 = omega arith in
    let n : count_to p high ≡ count_to p low + cond (p low) 1 0 = ap (count_to p) e ∙ count_more p low in
    at (p low) refl n
  where
    at : (b : Bool) → p low ≡ b → count_to p high ≡ count_to p low + cond b 1 0 → (p low ≡ true) × (count_to p low ≡ j)
    at true e n = (e, omega arith)
    at false e n = absurd (omega arith)

-- ---- places

place_from : (p : ℕ → Bool) (a n d : ℕ) → d < n → p (a + d) ≡ true → slice_get (filter p (range_with_len a n)) (length (filter p (range_with_len a d))) ≡ Some (a + d)
place_from p a zero d l e = absurd (omega arith)
place_from p a (suc n) zero l e =
    let s : a + zero ≡ a = omega arith in
    let t : p a ≡ true = sym (ap p s) ∙ e in
    ap (λ b. slice_get (cond b (a ∷ filter p (range_with_len (a + 1) n)) (filter p (range_with_len (a + 1) n))) 0) t ∙ ap Some (sym s)
place_from p a (suc n) (suc d) l e =
    let s : a + 1 + d ≡ a + suc d = omega arith in
    at (p a) (place_from p (a + 1) n d (omega arith) (ap p s ∙ e)) ∙ ap Some s
  where
    at : (b : Bool) → slice_get (filter p (range_with_len (a + 1) n)) (length (filter p (range_with_len (a + 1) d))) ≡ Some (a + 1 + d)
        → slice_get (cond b (a ∷ filter p (range_with_len (a + 1) n)) (filter p (range_with_len (a + 1) n))) (length (cond b (a ∷ filter p (range_with_len (a + 1) d)) (filter p (range_with_len (a + 1) d)))) ≡ Some (a + 1 + d)
    at true r = r
    at false r = r

-- a number that passes stands after those before it that pass
pub place_of_number : (p : ℕ → Bool) (n b : ℕ) → b < n → p b ≡ true → slice_get (filter p (range_with_len 0 n)) (count_to p b) ≡ Some b
place_of_number p n b l e =
    let s : 0 + b ≡ b = omega arith in
    place_from p 0 n b l (ap p s ∙ e) ∙ ap Some s

record IsAtPlace (p : ℕ → Bool) (a n w b : ℕ) : Type 0 where
  further : ℕ
  is : b ≡ a + further
  within : further < n
  passes : p b ≡ true
  place : w ≡ length (filter p (range_with_len a further))

at_place : (p : ℕ → Bool) (a n w b : ℕ) → slice_get (filter p (range_with_len a n)) w ≡ Some b → IsAtPlace p a n w b
at_place p a zero w b h = absurd (cc)
at_place p a (suc n) w b h = at (λ v k. at_place p (a + 1) n v b k) (p a) refl w h
  where
    longer : (xs : List ℕ) (v : ℕ) → v ≡ length xs → (c : Bool) → cond c (suc v) v ≡ length (cond c (a ∷ xs) xs)
    longer xs v e true = ap suc e
    longer xs v e false = e

    more : (v : ℕ) → IsAtPlace p (a + 1) n v b → (c : Bool) → p a ≡ c → (w : ℕ) → w ≡ cond c (suc v) v → IsAtPlace p a (suc n) w b
    more v r c e w q =
        let i : b ≡ a + 1 + r.further = r.is in
        let l : r.further < n = r.within in
        record {
          further = suc r.further;
          is = omega arith;
          within = omega arith;
          passes = r.passes;
          place = q ∙ longer (filter p (range_with_len (a + 1) r.further)) v r.place c ∙ sym (ap (λ x. length (cond x (a ∷ filter p (range_with_len (a + 1) r.further)) (filter p (range_with_len (a + 1) r.further)))) e);
        }

    at : ((v : ℕ) → slice_get (filter p (range_with_len (a + 1) n)) v ≡ Some b → IsAtPlace p (a + 1) n v b)
        → (c : Bool) → p a ≡ c → (w : ℕ) → slice_get (cond c (a ∷ filter p (range_with_len (a + 1) n)) (filter p (range_with_len (a + 1) n))) w ≡ Some b → IsAtPlace p a (suc n) w b
    at r true e zero k =
        let s : a ≡ b = cc in
        record { further = 0; is = omega arith; within = omega arith; passes = sym (ap p s) ∙ e; place = refl }
    at r true e (suc v) k = more v (r v k) true e (suc v) refl
    at r false e w k = more w (r w k) false e w refl

-- what stands at a place passes, and that many pass before it
pub number_at_place : (p : ℕ → Bool) (n w b : ℕ) → slice_get (filter p (range_with_len 0 n)) w ≡ Some b → (b < n) × (p b ≡ true) × (w ≡ count_to p b)
number_at_place p n w b h =
    let r = at_place p 0 n w b h in
    let i : r.further ≡ b = (let j : b ≡ 0 + r.further = r.is in omega arith) in
    (subst (λ k. k < n) i r.within, r.passes, r.place ∙ ap (count_to p) i)
