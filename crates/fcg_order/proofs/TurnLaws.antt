-- Rows of numbers, turned round.
use Rattle.std.proofs.Common.{◌≡◌, ℕ, zero, suc, ◌+◌, ◌-◌, ◌<◌, ◌≤◌, List, [], ◌∷◌, length, get_or, set, take, drop, cond, eqb, min, refl, sym, ap, subst, ◌∙◌, inl, inr, arith}
use Rattle.std.specs.Prelude.{Bool, true, false, ◌||◌, ◌⊎◌, Contains, filter}
use Rattle.std.specs.List.{list_any, range_with_len}
use Rattle.std.specs.List.Sorted.{IsStrictlyIncreasing}
use Rattle.std.proofs.lemmas.Bool.{cases_eq, cases_lt, cases_Bool}
use Rattle.std.proofs.lemmas.Bool.Decides.{Decides-eqb}
use Rattle.std.proofs.lemmas.List.{ext_get_or, get_or-drop, length-drop, get_or_past, take_all, length-set, get_or-set_same, get_or-set_other, get_or-take, get_or_default, length-take}
use Rattle.std.proofs.lemmas.List.Folds.{list_any_more, list_any_none, list_any_at}
use Rattle.std.proofs.lemmas.List.FromFn.{length-range_with_len, get_or-range_with_len}
use Rattle.std.proofs.lemmas.List.Kept.{IsStrictlyIncreasing-filter}
use Rattle.fcg_order.specs.Links.{row, HasLink}
use Rattle.fcg_order.specs.Turn.{HaveRising, AreTurned}
use Rattle.fcg_order.specs.Internal.Rows.{rows_of, AreStarts}
use Rattle.fcg_order.proofs.RowLaws.{IsRow, row_there, length-rows}
use Rattle.fcg_order.specs.Internal.Turn.{has_number, turned_from, turned_to, AreCounted, sum_first, AreSums, AreEnds, ArePlaced, sizes_of}

-- ---- numbers of lists

off : (a b : ℕ) → (a ≡ b → ⊥) → eqb a b ≡ false
off a b ne = elim (cases_Bool (eqb a b)) [
  | inl e ↦ absurd (ne ((Decides-eqb a b).0 e))
  | inr e ↦ e
]

same : (a : ℕ) → eqb a a ≡ true
same a = (Decides-eqb a a).1 refl

or_same : (b : Bool) (c : Bool) → c ≡ true → (b || c) ≡ true
or_same true c e = refl
or_same false c e = e

or_other : (b : Bool) (c : Bool) → c ≡ false → (b || c) ≡ b
or_other true c e = refl
or_other false c e = e

rises_far : (xs : List ℕ) → IsStrictlyIncreasing xs → (i k : ℕ) → i + suc k < length xs → get_or xs i 0 < get_or xs (i + suc k) 0
rises_far xs s i zero l = let e : i + suc zero ≡ i + 1 = omega arith in subst (λ j. get_or xs i 0 < get_or xs j 0) (sym e) (s i (omega arith))
rises_far xs s i (suc k) l =
    let a : get_or xs i 0 < get_or xs (i + suc k) 0 = rises_far xs s i k (omega arith) in
    let b : get_or xs (i + suc k) 0 < get_or xs (i + suc k + 1) 0 = s (i + suc k) (omega arith) in
    let e : i + suc (suc k) ≡ i + suc k + 1 = omega arith in
    subst (λ j. get_or xs i 0 < get_or xs j 0) (sym e) (omega arith)

rises_to : (xs : List ℕ) → IsStrictlyIncreasing xs → (i j : ℕ) → i < j → j < length xs → get_or xs i 0 < get_or xs j 0
rises_to xs s i j l m =
    let e : i + suc (j - suc i) ≡ j = omega arith in
    subst (λ n. get_or xs i 0 < get_or xs n 0) e (rises_far xs s i (j - suc i) (omega arith))

-- a number of a list that rises isn't among those before it
not_before : (xs : List ℕ) (j : ℕ) → IsStrictlyIncreasing xs → j < length xs → list_any (λ k. eqb k (get_or xs j 0)) (take j xs) ≡ false
not_before xs j s l = list_any_none (λ k. eqb k (get_or xs j 0)) (take j xs) (λ i d m.
    (let t : length (take j xs) ≡ min j (length xs) = length-take j xs in
    let small : i < j = omega arith in
    let q : get_or (take j xs) i d ≡ get_or xs i 0 = get_or-take j xs i d small ∙ get_or_default xs i d 0 (omega arith) in
    let r = rises_to xs s i j small l in
    off (get_or (take j xs) i d) (get_or xs j 0) (λ e. omega (arith, q, r, e))))

-- ---- one number of a row more

module _ (rows : List (List ℕ)) (x : ℕ) where
  here : (n : ℕ) → x < length rows → turned_from rows x n ≡ cond (has_number rows n x) (x ∷ turned_from rows (x + 1) n) (turned_from rows (x + 1) n)
  here n l =
      let e : length rows - x ≡ suc (length rows - (x + 1)) = omega arith in
      ap (λ m. filter (has_number rows n) (range_with_len x m)) e

  pub row_begins : (n : ℕ) → turned_to rows x 0 n ≡ turned_from rows (x + 1) n
  row_begins n = refl

  pub row_ends : (n j : ℕ) → x < length rows → length (row rows x) ≤ j → turned_to rows x j n ≡ turned_from rows x n
  row_ends n j l m = ap (λ ks. cond (list_any (λ k. eqb k n) ks) (x ∷ turned_from rows (x + 1) n) (turned_from rows (x + 1) n)) (take_all j (row rows x) m) ∙ sym (here n l)

  more : (n j : ℕ) → j < length (row rows x) → turned_to rows x (j + 1) n
      ≡ cond (list_any (λ k. eqb k n) (take j (row rows x)) || eqb (get_or (row rows x) j 0) n) (x ∷ turned_from rows (x + 1) n) (turned_from rows (x + 1) n)
  more n j l = ap (λ b. cond b (x ∷ turned_from rows (x + 1) n) (turned_from rows (x + 1) n)) (list_any_more (λ k. eqb k n) (row rows x) j 0 l)

  pub row_adds : (j : ℕ) → j < length (row rows x) → IsStrictlyIncreasing (row rows x) → turned_to rows x (j + 1) (get_or (row rows x) j 0) ≡ x ∷ turned_to rows x j (get_or (row rows x) j 0)
  row_adds j l s =
      let n : ℕ = get_or (row rows x) j 0 in
      more n j l ∙ ap (λ b. cond b (x ∷ turned_from rows (x + 1) n) (turned_from rows (x + 1) n)) (or_same (list_any (λ k. eqb k n) (take j (row rows x))) (eqb n n) (same n))
      ∙ sym (ap (λ b. x ∷ cond b (x ∷ turned_from rows (x + 1) n) (turned_from rows (x + 1) n)) (not_before (row rows x) j s l))

  pub row_keeps : (n j : ℕ) → j < length (row rows x) → (n ≡ get_or (row rows x) j 0 → ⊥) → turned_to rows x (j + 1) n ≡ turned_to rows x j n
  row_keeps n j l ne =
      more n j l ∙ ap (λ b. cond b (x ∷ turned_from rows (x + 1) n) (turned_from rows (x + 1) n))
      (or_other (list_any (λ k. eqb k n) (take j (row rows x))) (eqb (get_or (row rows x) j 0) n) (off (get_or (row rows x) j 0) n (λ e. ne (sym e))))

  grows : (b : Bool) (xs : List ℕ) → length xs ≤ length (cond b (x ∷ xs) xs)
  grows true xs = omega arith
  grows false xs = omega arith

  keeps_room : (n j : ℕ) → x < length rows → length (turned_to rows x j n) ≤ length (turned_from rows x n)
  keeps_room n j l = elim (cases_lt j (length (row rows x))) [
    | inl a ↦ at (length (row rows x) - j) j (omega arith)
    | inr a ↦ (let e = ap (λ xs. length xs) (row_ends n j l (omega arith)) in omega (arith, e))
  ]
    where
      step : (i : ℕ) → i < length (row rows x) → length (turned_to rows x i n) ≤ length (turned_to rows x (i + 1) n)
      step i m = let e = ap (λ xs. length xs) (more n i m) in let g = both (list_any (λ k. eqb k n) (take i (row rows x))) (eqb (get_or (row rows x) i 0) n) in omega (arith, e, g)
        where
          both : (b c : Bool) → length (cond b (x ∷ turned_from rows (x + 1) n) (turned_from rows (x + 1) n)) ≤ length (cond (b || c) (x ∷ turned_from rows (x + 1) n) (turned_from rows (x + 1) n))
          both true c = omega arith
          both false c = grows c (turned_from rows (x + 1) n)

      at : (k i : ℕ) → i + k ≡ length (row rows x) → length (turned_to rows x i n) ≤ length (turned_from rows x n)
      at zero i e = let q = ap (λ xs. length xs) (row_ends n i l (omega arith)) in omega (arith, q)
      at (suc k) i e = let a = step i (omega arith) in let b : length (turned_to rows x (i + 1) n) ≤ length (turned_from rows x n) = at k (i + 1) (omega arith) in omega (arith, a, b)

-- all numbers from x on fit into those from 0 on
module _ (rows : List (List ℕ)) (n : ℕ) where
  fewer_from : (x : ℕ) → x ≤ length rows → length (turned_from rows x n) ≤ sizes_of rows n
  fewer_from zero l = omega arith
  fewer_from (suc x) l =
      let a : length (turned_from rows x n) ≤ sizes_of rows n = fewer_from x (omega arith) in
      let e = ap (λ xs. length xs) (here rows x n (omega arith)) in
      let s : x + 1 ≡ suc x = omega arith in
      let q = ap (λ y. length (turned_from rows y n)) s in
      let g = grows rows x (has_number rows n x) (turned_from rows (x + 1) n) in
      omega (arith, a, e, g, q)

  pub fits : (x j : ℕ) → x < length rows → length (turned_to rows x j n) ≤ sizes_of rows n
  fits x j l = let a = keeps_room rows x n j l in let b = fewer_from x (omega arith) in omega (arith, a, b)

-- nothing stands past the rows
pub turned_none : (rows : List (List ℕ)) (x n : ℕ) → length rows ≤ x → turned_from rows x n ≡ []
turned_none rows x n l = let e : length rows - x ≡ 0 = omega arith in ap (λ m. filter (has_number rows n) (range_with_len x m)) e

few_from : (rows : List (List ℕ)) (n m x : ℕ) → length (filter (has_number rows n) (range_with_len x m)) ≤ m
few_from rows n zero x = omega arith
few_from rows n (suc m) x = at (has_number rows n x) (few_from rows n m (x + 1))
  where
    at : (b : Bool) → length (filter (has_number rows n) (range_with_len (x + 1) m)) ≤ m
        → length (cond b (x ∷ filter (has_number rows n) (range_with_len (x + 1) m)) (filter (has_number rows n) (range_with_len (x + 1) m))) ≤ suc m
    at true r = omega (arith, r)
    at false r = omega (arith, r)

pub few_sizes : (rows : List (List ℕ)) (n : ℕ) → sizes_of rows n ≤ length rows
few_sizes rows n = let a = few_from rows n (length rows - 0) 0 in omega (arith, a)

-- ---- counting

pub counted_more : (old new : ℕ → List ℕ) (counts : List ℕ) (k x c : ℕ) → k < length counts → new k ≡ x ∷ old k → ((n : ℕ) → (n ≡ k → ⊥) → new n ≡ old n)
    → c ≡ get_or counts k 0 + 1 → AreCounted old counts → AreCounted new (set counts k c)
counted_more old new counts k x c l e o s a = record {
  each = λ n. elim (cases_eq n k) [
    | inl q ↦ (let p = a.each k in let m = ap (λ xs. length xs) e in
        subst (λ j. get_or (set counts k c) j 0 ≡ length (new j)) (sym q) (get_or-set_same counts k c 0 l ∙ s ∙ omega (arith, p, m)))
    | inr ne ↦ get_or-set_other counts k n c 0 ne ∙ a.each n ∙ ap (λ xs. length xs) (sym (o n ne))
  ];
}

pub counted_same : (old new : ℕ → List ℕ) (counts : List ℕ) → ((n : ℕ) → new n ≡ old n) → AreCounted old counts → AreCounted new counts
counted_same old new counts e a = record { each = λ n. a.each n ∙ ap (λ xs. length xs) (sym (e n)) }

-- ---- sums

sum_grows : (f : ℕ → ℕ) (i k : ℕ) → sum_first f i ≤ sum_first f (i + k)
sum_grows f i zero = let e : i + zero ≡ i = omega arith in let q = ap (sum_first f) e in omega (arith, q)
sum_grows f i (suc k) =
    let e : i + suc k ≡ suc (i + k) = omega arith in
    let q : sum_first f (i + suc k) ≡ sum_first f (i + k) + f (i + k) = ap (sum_first f) e in
    let r = sum_grows f i k in omega (arith, q, r)

pub sum_to : (f : ℕ → ℕ) (i j : ℕ) → i ≤ j → sum_first f i ≤ sum_first f j
sum_to f i j l = let e : i + (j - i) ≡ j = omega arith in let q = ap (sum_first f) e in let r = sum_grows f i (j - i) in omega (arith, q, r)

sum_same : (f g : ℕ → ℕ) → ((n : ℕ) → f n ≡ g n) → (n : ℕ) → sum_first f n ≡ sum_first g n
sum_same f g e zero = refl
sum_same f g e (suc n) = let a = sum_same f g e n in let b = e n in omega (arith, a, b)

pub sums_begin : (counts : List ℕ) → AreSums counts counts 0
sums_begin counts = record { long = refl; done = λ k l. absurd (omega arith); left = λ k l. refl }

pub sums_more : (counts sums : List ℕ) (n s : ℕ) → n < length counts → s ≡ sum_first (λ m. get_or counts m 0) n + get_or sums n 0 → AreSums counts sums n → AreSums counts (set sums n s) (n + 1)
sums_more counts sums n s l e a = record {
  long = length-set sums n s ∙ a.long;
  done = λ k m. elim (cases_eq k n) [
    | inl q ↦ (let d = a.left n (omega arith) in let small : n < length sums = (let t = a.long in omega arith) in
        subst (λ j. get_or (set sums n s) j 0 ≡ sum_first (λ m. get_or counts m 0) (suc j)) (sym q) (get_or-set_same sums n s 0 small ∙ e ∙ omega (arith, d)))
    | inr ne ↦ get_or-set_other sums n k s 0 ne ∙ a.done k (omega arith)
  ];
  left = λ k m. get_or-set_other sums n k s 0 (λ q. omega arith) ∙ a.left k (omega arith);
}

-- ---- placing

pub ends_are : (rows : List (List ℕ)) (counts ends : List ℕ) → AreCounted (turned_from rows 0) counts → AreSums counts ends (length counts) → AreEnds (sizes_of rows) ends
ends_are rows counts ends a s = record {
  each = λ n l. (let w = s.long in s.done n (omega (arith, l, w)) ∙ sum_same (λ m. get_or counts m 0) (sizes_of rows) a.each (suc n));
}

pub placed_begin : (rows : List (List ℕ)) (x : ℕ) (starts targets : List ℕ) → AreEnds (sizes_of rows) starts → length rows ≤ x → length targets ≡ sum_first (sizes_of rows) (length starts)
    → ArePlaced (sizes_of rows) (turned_from rows x) starts targets
placed_begin rows x starts targets a g m = record {
  long = m;
  room = λ n. (let q = none n in omega (arith, q));
  start = λ n l. (let q = none n in let e = a.each n l in omega (arith, q, e));
  value = λ n k l i. absurd (let q = none n in omega (arith, q, i));
}
  where
    none : (n : ℕ) → length (turned_from rows x n) ≡ 0
    none n = ap (λ xs. length xs) (turned_none rows x n g)

module _ (sizes : ℕ → ℕ) (old new : ℕ → List ℕ) (starts targets : List ℕ) (k x : ℕ) (p : ArePlaced sizes old starts targets)
    (small : k < length starts) (adds : new k ≡ x ∷ old k) (keeps : (n : ℕ) → (n ≡ k → ⊥) → new n ≡ old n) (fits : (n : ℕ) → length (new n) ≤ sizes n) where
  abbrev S : ℕ → ℕ
  S = sum_first sizes

  grown : length (new k) ≡ suc (length (old k))
  grown = ap (λ xs. length xs) adds

  pub start_some : 1 ≤ get_or starts k 0
  start_some = let a = p.start k small in let f = fits k in let g = grown in omega (arith, a, f, g)

  -- where it comes
  at_least : S k + 1 ≤ get_or starts k 0
  at_least = let a = p.start k small in let f = fits k in let g = grown in omega (arith, a, f, g)

  at_most : get_or starts k 0 ≤ S (suc k)
  at_most = let a = p.start k small in omega (arith, a)

  pub start_below : get_or starts k 0 ≤ length targets
  start_below = let a = at_most in let m = p.long in let t = sum_to sizes (suc k) (length starts) (omega arith) in omega (arith, a, m, t)

  module _ (q : ℕ) (q_is : q + 1 ≡ get_or starts k 0) where
    other_place : (n i : ℕ) → n < length starts → (n ≡ k → ⊥) → i < length (old n) → get_or starts n 0 + i ≡ q → ⊥
    other_place n i l ne m e =
        let a = p.start n l in
        let r = p.room n in
        let b = at_least in
        let c = at_most in
        elim (cases_lt n k) [
          | inl w ↦ (let t = sum_to sizes (suc n) k (omega arith) in omega (arith, a, m, e, b, t, q_is))
          | inr w ↦ (let t = sum_to sizes (suc k) n (omega arith) in omega (arith, a, r, e, c, t, q_is))
        ]

    pub placed_more : ArePlaced sizes new (set starts k q) (set targets q x)
    placed_more = record {
      long = length-set targets q x ∙ p.long ∙ ap S (sym (length-set starts k q));
      room = fits;
      start = λ n l. (let w = length-set starts k q in elim (cases_eq n k) [
        | inl e ↦ (let a = p.start k small in let g = grown in
            subst (λ j. get_or (set starts k q) j 0 + length (new j) ≡ S (suc j)) (sym e) (let h = get_or-set_same starts k q 0 small in omega (arith, a, g, h, q_is)))
        | inr ne ↦ (let h = get_or-set_other starts k n q 0 ne in let o = ap (λ xs. length xs) (keeps n ne) in let a = p.start n (omega (arith, w, l)) in omega (arith, a, h, o))
      ]);
      value = λ n i l m. (let w = length-set starts k q in elim (cases_eq n k) [
        | inl e ↦ subst (λ j. get_or (set targets q x) (get_or (set starts k q) j 0 + i) 0 ≡ get_or (new j) i 0) (sym e)
            (ap (λ s. get_or (set targets q x) (s + i) 0) (get_or-set_same starts k q 0 small) ∙ own i (subst (λ j. i < length (new j)) e m))
        | inr ne ↦ (let o = keeps n ne in let d : i < length (old n) = subst (λ (xs : List ℕ). i < length xs) o m in
            ap (λ s. get_or (set targets q x) (s + i) 0) (get_or-set_other starts k n q 0 ne)
            ∙ get_or-set_other targets q (get_or starts n 0 + i) x 0 (other_place n i (omega (arith, w, l)) ne d)
            ∙ p.value n i (omega (arith, w, l)) d ∙ ap (λ xs. get_or xs i 0) (sym o))
      ]);
    }
      where
        own : (i : ℕ) → i < length (new k) → get_or (set targets q x) (q + i) 0 ≡ get_or (new k) i 0
        own zero m =
            let e : q + zero ≡ q = omega arith in
            let b = start_below in
            ap (λ j. get_or (set targets q x) j 0) e ∙ get_or-set_same targets q x 0 (omega (arith, b, q_is)) ∙ ap (λ xs. get_or xs 0 0) (sym adds)
        own (suc i) m =
            let e : q + suc i ≡ get_or starts k 0 + i = omega (arith, q_is) in
            let g = grown in
            get_or-set_other targets q (q + suc i) x 0 (λ w. omega arith)
            ∙ ap (λ j. get_or targets j 0) e ∙ p.value k i small (omega (arith, m, g)) ∙ ap (λ xs. get_or xs (suc i) 0) (sym adds)

pub placed_same : (sizes : ℕ → ℕ) (old new : ℕ → List ℕ) (starts targets : List ℕ) → ((n : ℕ) → new n ≡ old n) → ArePlaced sizes old starts targets → ArePlaced sizes new starts targets
placed_same sizes old new starts targets e p = record {
  long = p.long;
  room = λ n. (let a = p.room n in let q = ap (λ xs. length xs) (e n) in omega (arith, a, q));
  start = λ n l. (let a = p.start n l in let q = ap (λ xs. length xs) (e n) in omega (arith, a, q));
  value = λ n k l m. p.value n k l (subst (λ (xs : List ℕ). k < length xs) (e n) m) ∙ ap (λ xs. get_or xs k 0) (sym (e n));
}

-- ---- the code's rows

-- a number of a row is below the count
pub number_below : (rows : List (List ℕ)) (count x j : ℕ) (r : List ℕ) → r ≡ row rows x → HaveRising rows count → j < length r → get_or r j 0 < count
number_below rows count x j r e h l =
    let m : j < length (row rows x) = subst (λ (xs : List ℕ). j < length xs) e l in
    let b = h.below x (get_or (row rows x) j 0) (j, m, get_or_default (row rows x) j (get_or (row rows x) j 0) 0 m) in
    let q = ap (λ xs. get_or xs j 0) e in
    omega (arith, b, q)

pub wider : (rows : List (List ℕ)) (count more : ℕ) → count ≤ more → HaveRising rows count → HaveRising rows more
wider rows count more l h = record { below = λ x n k. (let b = h.below x n k in omega (arith, b)); rise = h.rise }

module _ (rows : List (List ℕ)) (x j : ℕ) (r : List ℕ) (e : r ≡ row rows x) (there : x < length rows) (inside : j < length r) where
  abbrev number : ℕ
  number = get_or r j 0

  inside_row : j < length (row rows x)
  inside_row = subst (λ (xs : List ℕ). j < length xs) e inside

  number_is : number ≡ get_or (row rows x) j 0
  number_is = ap (λ xs. get_or xs j 0) e

  module _ (rise : IsStrictlyIncreasing (row rows x)) where
    adds_here : turned_to rows x (j + 1) number ≡ x ∷ turned_to rows x j number
    adds_here = subst (λ m. turned_to rows x (j + 1) m ≡ x ∷ turned_to rows x j m) (sym number_is) (row_adds rows x j inside_row rise)

    keeps_here : (m : ℕ) → (m ≡ number → ⊥) → turned_to rows x (j + 1) m ≡ turned_to rows x j m
    keeps_here m ne = row_keeps rows x m j inside_row (λ q. ne (q ∙ sym number_is))

    pub count_step : (counts : List ℕ) → number < length counts → AreCounted (turned_to rows x j) counts → AreCounted (turned_to rows x (j + 1)) (set counts number (get_or counts number 0 + 1))
    count_step counts l a = counted_more (turned_to rows x j) (turned_to rows x (j + 1)) counts number x (get_or counts number 0 + 1) l adds_here keeps_here refl a

    module _ (starts targets : List ℕ) (small : number < length starts) (p : ArePlaced (sizes_of rows) (turned_to rows x j) starts targets) where
      all_fit : (m : ℕ) → length (turned_to rows x (j + 1) m) ≤ sizes_of rows m
      all_fit m = fits rows m x (j + 1) there

      pub step_start : 1 ≤ get_or starts number 0
      step_start = start_some (sizes_of rows) (turned_to rows x j) (turned_to rows x (j + 1)) starts targets number x p small adds_here keeps_here all_fit

      pub step_below : get_or starts number 0 ≤ length targets
      step_below = start_below (sizes_of rows) (turned_to rows x j) (turned_to rows x (j + 1)) starts targets number x p small adds_here keeps_here all_fit

      pub place_step : ArePlaced (sizes_of rows) (turned_to rows x (j + 1)) (set starts number (get_or starts number 0 - 1)) (set targets (get_or starts number 0 - 1) x)
      place_step = placed_more (sizes_of rows) (turned_to rows x j) (turned_to rows x (j + 1)) starts targets number x p small adds_here keeps_here all_fit (get_or starts number 0 - 1) (let s = step_start in omega (arith, s))

  pub count_fits : length rows < 4294967296 → (counts : List ℕ) → AreCounted (turned_to rows x j) counts → get_or counts number 0 + 1 < 18446744073709551616
  count_fits few counts a = let q = a.each number in let f = fits rows number x j there in let g = few_sizes rows number in omega (arith, q, f, g)

-- ---- the whole

none_has : (rows : List (List ℕ)) (count : ℕ) → HaveRising rows count → (x : ℕ) → has_number rows count x ≡ false
none_has rows count h x = list_any_none (λ k. eqb k count) (row rows x) (λ k d l.
    (let b = number_below rows count x k (row rows x) refl h l in
    let q = get_or_default (row rows x) k d 0 l in
    off (get_or (row rows x) k d) count (λ e. omega (arith, b, q, e))))

none_pass : (p : ℕ → Bool) → ((x : ℕ) → p x ≡ false) → (x m : ℕ) → filter p (range_with_len x m) ≡ []
none_pass p h x zero = refl
none_pass p h x (suc m) = ap (λ b. cond b (x ∷ filter p (range_with_len (x + 1) m)) (filter p (range_with_len (x + 1) m))) (h x) ∙ none_pass p h (x + 1) m

split : {X : Type 0} (y : X) (ys : List X) (x : X) → Contains (y ∷ ys) x → (y ≡ x) ⊎ Contains ys x
split y ys x (zero, l, e) = inl e
split y ys x (suc k, l, e) = inr (k, omega (arith, l), e)

behind : {X : Type 0} (y : X) (ys : List X) (x : X) → Contains ys x → Contains (y ∷ ys) x
behind y ys x c = let l : c.0 < length ys = c.1 in (suc c.0, omega (arith, l), c.2)

-- what a filter of a range has
in_turned : (p : ℕ → Bool) (a m x : ℕ) → Contains (filter p (range_with_len a m)) x → (p x ≡ true) × (x < a + m)
in_turned p a zero x c = absurd (let l : c.0 < 0 = c.1 in omega (arith, l))
in_turned p a (suc m) x c = at (p a) refl (in_turned p (a + 1) m x) c
  where
    on : ((p x ≡ true) × (x < a + 1 + m)) → (p x ≡ true) × (x < a + suc m)
    on r = let l = r.1 in (r.0, omega (arith, l))

    at : (b : Bool) → p a ≡ b → (Contains (filter p (range_with_len (a + 1) m)) x → (p x ≡ true) × (x < a + 1 + m))
        → Contains (cond b (a ∷ filter p (range_with_len (a + 1) m)) (filter p (range_with_len (a + 1) m))) x → (p x ≡ true) × (x < a + suc m)
    at true e r c = elim (split a (filter p (range_with_len (a + 1) m)) x c) [
      | inl q ↦ (ap p (sym q) ∙ e, omega (arith, q))
      | inr d ↦ on (r d)
    ]
    at false e r c = on (r c)

to_turned : (p : ℕ → Bool) (a m x : ℕ) → p x ≡ true → a ≤ x → x < a + m → Contains (filter p (range_with_len a m)) x
to_turned p a zero x h l u = absurd (omega (arith, l, u))
to_turned p a (suc m) x h l u = at (p a) refl (to_turned p (a + 1) m x h)
  where
    at : (b : Bool) → p a ≡ b → (a + 1 ≤ x → x < a + 1 + m → Contains (filter p (range_with_len (a + 1) m)) x)
        → Contains (cond b (a ∷ filter p (range_with_len (a + 1) m)) (filter p (range_with_len (a + 1) m))) x
    at true e r = elim (cases_eq a x) [
      | inl q ↦ (0, omega arith, q)
      | inr ne ↦ behind a (filter p (range_with_len (a + 1) m)) x (r (omega (arith, l, ne)) (omega (arith, u)))
    ]
    at false e r = elim (cases_eq a x) [
      | inl q ↦ absurd (let z : p a ≡ p x = ap p q in let w : true ≡ false = sym h ∙ sym z ∙ e in cc)
      | inr ne ↦ r (omega (arith, l, ne)) (omega (arith, u))
    ]

any_in : (n : ℕ) (ks : List ℕ) → list_any (λ k. eqb k n) ks ≡ true → Contains ks n
any_in n [] h = absurd cc
any_in n (k ∷ ks) h = at (eqb k n) refl (any_in n ks) h
  where
    at : (b : Bool) → eqb k n ≡ b → (list_any (λ k. eqb k n) ks ≡ true → Contains ks n) → (b || list_any (λ k. eqb k n) ks) ≡ true → Contains (k ∷ ks) n
    at true e r h = (0, omega arith, (Decides-eqb k n).0 e)
    at false e r h = behind k ks n (r h)

in_any : (n : ℕ) (ks : List ℕ) → Contains ks n → list_any (λ k. eqb k n) ks ≡ true
in_any n ks c = list_any_at (λ k. eqb k n) ks c.0 n c.1 ((Decides-eqb (get_or ks c.0 n) n).1 c.2)

starts_from : (ss ts : List ℕ) → 0 < length ss → ((n : ℕ) → suc n < length ss → get_or ss n 0 ≤ get_or ss (suc n) 0) → ((n : ℕ) → suc n ≡ length ss → get_or ss n 0 ≡ length ts) → AreStarts ss ts
starts_from [] ts l r e = absurd (omega (arith, l))
starts_from (a ∷ []) ts l r e = e 0 (omega arith)
starts_from (a ∷ b ∷ ss) ts l r e = (r 0 (omega arith), starts_from (b ∷ ss) ts (omega arith) (λ n m. r (suc n) (omega (arith, m))) (λ n m. e (suc n) (omega (arith, m))))

module _ (rows : List (List ℕ)) (count : ℕ) (h : HaveRising rows count) (ss ts : List ℕ) (long : length ss ≡ count + 1) (p : ArePlaced (sizes_of rows) (turned_from rows 0) ss ts) where
  abbrev T : ℕ → ℕ
  T = sum_first (sizes_of rows)

  start_is : (n : ℕ) → n < length ss → get_or ss n 0 ≡ T n
  start_is n l = let a = p.start n l in omega (arith, a)

  nothing : sizes_of rows count ≡ 0
  nothing = ap (λ xs. length xs) (none_pass (has_number rows count) (none_has rows count h) 0 (length rows - 0))

  pub are_starts : AreStarts ss ts
  are_starts = starts_from ss ts (omega (arith, long))
      (λ n l. (let a = start_is n (omega (arith, l)) in let b = start_is (suc n) l in omega (arith, a, b)))
      (λ n e. (let a = start_is n (omega (arith, e)) in
      let s : n ≡ count = omega (arith, e, long) in
      let m = p.long in
      let w : length ss ≡ suc count = omega (arith, long) in
      let q : T (length ss) ≡ T (suc count) = ap T w in
      let z = nothing in
      let t : T n ≡ T count = ap T s in
      omega (arith, a, m, q, z, t)))

  many : length (rows_of ss ts) ≡ count
  many = let a = length-rows (rows_of ss ts) ss ts refl are_starts in omega (arith, a, long)

  row_is : (n : ℕ) → n < count → row (rows_of ss ts) n ≡ turned_from rows 0 n
  row_is n l = r.row_is ∙ ext_get_or 0 (drop a (take b ts)) (turned_from rows 0 n) len (λ i m.
      get_or-drop a (take b ts) i 0 ∙ get_or-take b ts (a + i) 0 (omega (arith, m, size)) ∙ p.value n i (omega (arith, l, long)) (omega (arith, m, len)))
    where
      a : ℕ
      a = get_or ss n 0

      b : ℕ
      b = get_or ss (n + 1) 0

      r : IsRow (rows_of ss ts) ss ts n 0 0
      r = let m = many in row_there (rows_of ss ts) ss ts n 0 0 refl are_starts (omega (arith, m, l))

      next : b ≡ T (suc n)
      next = let e : n + 1 ≡ suc n = omega arith in ap (λ k. get_or ss k 0) e ∙ start_is (suc n) (omega (arith, l, long))

      size : length (drop a (take b ts)) ≡ b - a
      size = let d = length-drop a (take b ts) in let t = length-take b ts in let w = r.below in omega (arith, d, t, w)

      len : length (drop a (take b ts)) ≡ length (turned_from rows 0 n)
      len = let s = size in let x = next in let y = start_is n (omega (arith, l, long)) in omega (arith, s, x, y)

  range_rises : (a m : ℕ) → IsStrictlyIncreasing (range_with_len a m)
  range_rises a m k l =
      let t = length-range_with_len a m in
      let x = get_or-range_with_len a m k 0 (omega (arith, l, t)) in
      let y = get_or-range_with_len a m (k + 1) 0 (omega (arith, l, t)) in
      omega (arith, x, y)

  pub are_turned : AreTurned rows count (rows_of ss ts)
  are_turned = record {
    long = many;
    each = λ n x l. (
      (λ c. (let i = in_turned (has_number rows n) 0 (length rows - 0) x (subst (λ (xs : List ℕ). Contains xs x) (row_is n l) c) in any_in n (row rows x) i.0)),
      (λ c. subst (λ (xs : List ℕ). Contains xs x) (sym (row_is n l)) (to_turned (has_number rows n) 0 (length rows - 0) x (in_any n (row rows x) c) (omega arith) (let t = there n x c in omega (arith, t)))),
    );
    rise = λ n l. subst IsStrictlyIncreasing (sym (row_is n l)) (IsStrictlyIncreasing-filter (has_number rows n) (range_with_len 0 (length rows - 0)) (range_rises 0 (length rows - 0)));
  }
    where
      there : (n x : ℕ) → HasLink rows x n → x < length rows
      there n x c = elim (cases_lt x (length rows)) [
        | inl l ↦ l
        | inr g ↦ absurd (let e : row rows x ≡ [] = get_or_past rows x [] (omega (arith, g)) in let l : c.0 < length (row rows x) = c.1 in let q = ap (λ xs. length xs) e in omega (arith, l, q))
      ]
