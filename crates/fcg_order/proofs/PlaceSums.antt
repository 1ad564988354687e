-- Sums over the nodes of a forest, as places are made.
use Rattle.std.proofs.Common.{◌≡◌, ℕ, zero, suc, ◌+◌, ◌-◌, ◌<◌, ◌≤◌, List, ◌∷◌, ◌++◌, length, get_or, set, take, drop, cond, eqb, min, replicate, refl, sym, ap, subst, ◌∙◌, inl, inr, arith}
use Rattle.std.proofs.Math.Seq.{drop-cons}
use Rattle.std.specs.Prelude.{Option, Some, None}
use Rattle.std.proofs.lemmas.Bool.{cases_eq, cases_lt, cases_Bool}
use Rattle.std.proofs.lemmas.Bool.Decides.{Decides-eqb}
use Rattle.std.proofs.lemmas.List.{get_or-replicate, length-replicate, length-set, get_or-set_same, get_or-set_other, get_or-take, get_or_default, length-take, take-append-drop}
use Rattle.std.proofs.lemmas.Map.Made.{IsDistinct-from_AllPairs}
use Rattle.std.proofs.lemmas.Map.Views.{Contains-from_any}
use Rattle.std.proofs.lemmas.Map.Steps.{length-le_from_distinct_below}
use Rattle.fcg_order.specs.Places.{parent, IsForest}
use Rattle.fcg_order.specs.Internal.Turn.{sum_first}
use Rattle.fcg_order.specs.Internal.Places.{slot, slot_of, node_at, size_at, added_to, sum_from, added_from, own_size, AreSizes, IsOpen}
use Rattle.fcg_order.proofs.TurnLaws.{sum_to}

pub at_eq : (a b : ℕ) {X : Type 0} (x y : X) → a ≡ b → cond (eqb a b) x y ≡ x
at_eq a b x y e = ap (λ t. cond t x y) ((Decides-eqb a b).1 e)

pub at_ne : (a b : ℕ) {X : Type 0} (x y : X) → (a ≡ b → ⊥) → cond (eqb a b) x y ≡ y
at_ne a b x y ne = elim (cases_Bool (eqb a b)) [
  | inl e ↦ absurd (ne ((Decides-eqb a b).0 e))
  | inr e ↦ ap (λ t. cond t x y) e
]

-- ---- sums

pub from_same : (f g : ℕ → ℕ) (i n : ℕ) → ((k : ℕ) → i ≤ k → k < i + n → f k ≡ g k) → sum_from f i n ≡ sum_from g i n
from_same f g i zero h = refl
from_same f g i (suc n) h = let a = h i (omega arith) (omega arith) in let b = from_same f g (i + 1) n (λ k l m. h k (omega (arith, l)) (omega (arith, m))) in omega (arith, a, b)

pub first_from : (f : ℕ → ℕ) (i n : ℕ) → sum_first f i + sum_from f i n ≡ sum_first f (i + n)
first_from f i zero = let e : i + zero ≡ i = omega arith in let q = ap (sum_first f) e in omega (arith, q)
first_from f i (suc n) =
    let s : i + 1 ≡ suc i = omega arith in
    let r = first_from f (i + 1) n in
    let q : sum_first f (i + 1) ≡ sum_first f i + f i = ap (sum_first f) s in
    let e : i + suc n ≡ i + 1 + n = omega arith in
    let t = ap (sum_first f) e in
    omega (arith, r, q, t)

pub first_same : (f g : ℕ → ℕ) (n : ℕ) → ((k : ℕ) → k < n → f k ≡ g k) → sum_first f n ≡ sum_first g n
first_same f g zero h = refl
first_same f g (suc n) h = let a = first_same f g n (λ k l. h k (omega (arith, l))) in let b = h n (omega arith) in omega (arith, a, b)

pub first_zero : (f : ℕ → ℕ) (n : ℕ) → ((k : ℕ) → k < n → f k ≡ 0) → sum_first f n ≡ 0
first_zero f zero h = refl
first_zero f (suc n) h = let a = first_zero f n (λ k l. h k (omega (arith, l))) in let b = h n (omega arith) in omega (arith, a, b)

-- one of the numbers has d more
pub first_bump : (f g : ℕ → ℕ) (n j d : ℕ) → j < n → g j ≡ f j + d → ((k : ℕ) → (k ≡ j → ⊥) → k < n → g k ≡ f k) → sum_first g n ≡ sum_first f n + d
first_bump f g zero j d l e h = absurd (omega (arith, l))
first_bump f g (suc n) j d l e h = elim (cases_eq n j) [
  | inl q ↦ (let a = first_same g f n (λ k m. h k (λ w. omega (arith, m, w, q)) (omega (arith, m))) in
      let b : g n ≡ f n + d = subst (λ i. g i ≡ f i + d) (sym q) e in
      omega (arith, a, b))
  | inr ne ↦ (let a = first_bump f g n j d (omega (arith, l, ne)) e (λ k w m. h k w (omega (arith, m))) in let b = h n ne (omega arith) in omega (arith, a, b))
]

pub first_has : (f : ℕ → ℕ) (n j : ℕ) → j < n → f j ≤ sum_first f n
first_has f n j l = let a = sum_to f (suc j) n l in omega (arith, a)

-- the number of a sum in which a number falls
pub first_falls : (f : ℕ → ℕ) (n v : ℕ) → v < sum_first f n → (j : ℕ) × (j < n) × (sum_first f j ≤ v) × (v < sum_first f j + f j)
first_falls f zero v l = absurd (omega (arith, l))
first_falls f (suc n) v l = elim (cases_lt v (sum_first f n)) [
  | inl m ↦ (let r = first_falls f n v m in let w = r.1 in (r.0, omega (arith, w), r.2, r.3))
  | inr m ↦ (n, omega arith, omega (arith, m), l)
]

-- ---- the forest

module _ (parents : List (Option ℕ)) (order : List ℕ) (forest : IsForest parents order) where
  abbrev N : ℕ
  N = length parents

  abbrev L : ℕ
  L = length order

  pub node_below : (k : ℕ) → k < L → node_at order k < N
  node_below k l = (forest.each (node_at order k)).0 (k, l, get_or_default order k (node_at order k) 0 l)

  pub one_node : (i k : ℕ) → i < L → k < L → node_at order i ≡ node_at order k → i ≡ k
  one_node i k l m e = elim (cases_eq i k) [
    | inl q ↦ q
    | inr ne ↦ absurd (elim (cases_lt i k) [
      | inl w ↦ forest.once i k 0 w m e
      | inr w ↦ forest.once k i 0 (omega (arith, w, ne)) l (sym e)
    ])
  ]

  -- where a node stands
  pub found : (x : ℕ) → x < N → (k : ℕ) × (k < L) × (node_at order k ≡ x)
  found x l = let c = (forest.each x).1 l in (c.0, c.1, get_or_default order c.0 0 x c.1 ∙ c.2)

  pub few_nodes : L ≤ N
  few_nodes = length-le_from_distinct_below order N (IsDistinct-from_AllPairs Decides-eqb order forest.once) (λ q h. (forest.each q).0 (Contains-from_any (λ x y. (Decides-eqb x y).0) q order h))

  pub parent_before : (k p : ℕ) → k < L → parent parents (node_at order k) ≡ Some p → (j : ℕ) × (j < k) × (node_at order j ≡ p)
  parent_before k p l e =
      let parts : order ≡ take k order ++ node_at order k ∷ drop (suc k) order = sym (take-append-drop k order) ∙ ap (λ xs. take k order ++ xs) (drop-cons order k 0 l) in
      let t = forest.after (take k order) (drop (suc k) order) (node_at order k) p parts e in
      let m : length (take k order) ≡ min k (length order) = length-take k order in
      let a : t.0 < length (take k order) = t.1 in
      let b : t.0 < k = omega (arith, a, m) in
      (t.0, b, sym (get_or-take k order t.0 0 b) ∙ get_or_default (take k order) t.0 0 p a ∙ t.2)

  -- what hangs at a slot stands behind the slot's node
  pub slot_open : (k : ℕ) → k < L → IsOpen parents order k (slot parents (node_at order k))
  slot_open k l = at (parent parents (node_at order k)) refl
    where
      at : (o : Option ℕ) → parent parents (node_at order k) ≡ o → IsOpen parents order k (slot_of N o)
      at None e = inl refl
      at (Some p) e = inr (parent_before k p l e)

  pub slot_below : (k : ℕ) → k < L → slot parents (node_at order k) ≤ N
  slot_below k l = elim (slot_open k l) [
    | inl e ↦ omega (arith, e)
    | inr j ↦ (let w = j.1 in let b = node_below j.0 (omega (arith, w, l)) in let e = j.2 in omega (arith, b, e))
  ]

  -- an open slot isn't a node that stands later
  pub not_later : (i k s : ℕ) → i ≤ k → k < L → IsOpen parents order i s → node_at order k ≡ s → ⊥
  not_later i k s l m (inl e) q = let b = node_below k m in omega (arith, b, e, q)
  not_later i k s l m (inr (j, w, e)) q = let o = one_node k j m (omega (arith, w, l, m)) (q ∙ sym e) in omega (arith, o, w, l)

  pub later_open : (i k s : ℕ) → i ≤ k → IsOpen parents order i s → IsOpen parents order k s
  later_open i k s l (inl e) = inl e
  later_open i k s l (inr (j, w, e)) = inr (j, omega (arith, w, l), e)

  -- ---- sizes

  module _ (sizes : List ℕ) where
    pub adds_here : (s k : ℕ) → slot parents (node_at order k) ≡ s → added_to parents order sizes s k ≡ size_at sizes (node_at order k)
    adds_here s k e = at_eq (slot parents (node_at order k)) s (size_at sizes (node_at order k)) 0 e

    pub adds_none : (s k : ℕ) → (slot parents (node_at order k) ≡ s → ⊥) → added_to parents order sizes s k ≡ 0
    adds_none s k ne = at_ne (slot parents (node_at order k)) s (size_at sizes (node_at order k)) 0 ne

    pub added_whole : (s : ℕ) → sum_first (added_to parents order sizes s) L ≡ added_from parents order sizes 0 s
    added_whole s = let a = first_from (added_to parents order sizes s) 0 (L - 0) in let e : 0 + (L - 0) ≡ L = omega arith in let q = ap (sum_first (added_to parents order sizes s)) e in omega (arith, a, q)

    -- one more node from the end
    module _ (i : ℕ) (there : i < L) (z : AreSizes parents order sizes (i + 1)) where
      abbrev node : ℕ
      node = node_at order i

      abbrev s : ℕ
      s = slot parents node

      abbrev sum : ℕ
      sum = size_at sizes s + size_at sizes node

      abbrev more : List ℕ
      more = set sizes s sum

      slot_inside : s < length sizes
      slot_inside = let a = slot_below i there in let b = z.long in omega (arith, a, b)

      same_later : (k : ℕ) → i ≤ k → k < L → size_at more (node_at order k) ≡ size_at sizes (node_at order k)
      same_later k l m = get_or-set_other sizes s (node_at order k) sum 0 (not_later i k s l m (slot_open i there))

      all_before : sum_first (λ k. size_at sizes (node_at order k)) i + size_at sizes node + size_at sizes N ≡ L
      all_before = let a = z.all in let e : i + 1 ≡ suc i = omega arith in let q = ap (sum_first (λ k. size_at sizes (node_at order k))) e in omega (arith, a, q)

      pub sum_small : sum ≤ L
      sum_small = elim (slot_open i there) [
        | inl e ↦ (let a = all_before in let q = ap (size_at sizes) e in omega (arith, a, q))
        | inr j ↦ (let a = all_before in let q = ap (size_at sizes) j.2 in let h = first_has (λ k. size_at sizes (node_at order k)) i j.0 j.1 in omega (arith, a, q, h))
      ]

      added_more : (t : ℕ) → added_from parents order more i t ≡ added_to parents order sizes t i + added_from parents order sizes (i + 1) t
      added_more t =
          let e : L - i ≡ suc (L - (i + 1)) = omega (arith, there) in
          ap (λ n. sum_from (added_to parents order more t) i n) e
          ∙ from_same (added_to parents order more t) (added_to parents order sizes t) i (suc (L - (i + 1))) (λ k l m.
          ap (λ v. cond (eqb (slot parents (node_at order k)) t) v 0) (same_later k l (omega (arith, m, there))))

      pub sizes_more : AreSizes parents order more i
      sizes_more = record {
        long = length-set sizes s sum ∙ z.long;
        size = λ t l. elim (cases_eq t s) [
          | inl q ↦ subst (λ u. size_at more u ≡ own_size parents u + added_from parents order more i u) (sym q)
              (let a = get_or-set_same sizes s sum 0 slot_inside in let b = z.size s (slot_below i there) in let d = added_more s in let h = adds_here s i refl in omega (arith, a, b, d, h))
          | inr ne ↦ (let a = get_or-set_other sizes s t sum 0 ne in let b = z.size t l in let d = added_more t in let h = adds_none t i (λ w. ne (sym w)) in omega (arith, a, b, d, h))
        ];
        all = elim (slot_open i there) [
          | inl e ↦ (let a = all_before in
              let f = first_same (λ k. size_at more (node_at order k)) (λ k. size_at sizes (node_at order k)) i (λ k l.
              get_or-set_other sizes s (node_at order k) sum 0 (λ w. (let b = node_below k (omega (arith, l, there)) in omega (arith, b, w, e)))) in
              let g : size_at more N ≡ sum = ap (size_at more) (sym e) ∙ get_or-set_same sizes s sum 0 slot_inside in
              let h = ap (size_at sizes) e in
              omega (arith, a, f, g, h))
          | inr j ↦ (let a = all_before in
              let f = first_bump (λ k. size_at sizes (node_at order k)) (λ k. size_at more (node_at order k)) i j.0 (size_at sizes node) j.1
              (ap (size_at more) j.2 ∙ get_or-set_same sizes s sum 0 slot_inside ∙ ap (λ v. size_at sizes v + size_at sizes node) (sym j.2))
              (λ k ne l. get_or-set_other sizes s (node_at order k) sum 0 (λ w. ne (one_node k j.0 (omega (arith, l, there)) (let v = j.1 in omega (arith, v, there)) (w ∙ sym j.2)))) in
              let g : size_at more N ≡ size_at sizes N = get_or-set_other sizes s N sum 0 (λ w. (let v = j.1 in let b = node_below j.0 (omega (arith, v, there)) in let q = j.2 in omega (arith, b, q, w))) in
              omega (arith, a, f, g))
        ];
      }

  pub sizes_begin : (sizes : List ℕ) (i : ℕ) → L ≤ i → i ≡ L → length sizes ≡ N + 1 → ((s : ℕ) → s ≤ N → size_at sizes s ≡ own_size parents s) → AreSizes parents order sizes i
  sizes_begin sizes i l e m h = record {
    long = m;
    size = λ s k. (let a = h s k in let z : L - i ≡ 0 = omega (arith, l) in let q = ap (sum_from (added_to parents order sizes s) i) z in omega (arith, a, q));
    all = (let a = first_same (λ k. size_at sizes (node_at order k)) (λ k. 1) i (λ k w. (let b = node_below k (omega (arith, w, e)) in
        h (node_at order k) (omega (arith, b)) ∙ at_ne (node_at order k) N 0 1 (λ q. omega (arith, b, q)))) in
        let c = ones i in
        let z = h N (omega arith) ∙ at_eq N N 0 1 refl in
        omega (arith, a, c, z, e));
  }
    where
      ones : (n : ℕ) → sum_first (λ k. 1) n ≡ n
      ones zero = refl
      ones (suc n) = let a = ones n in omega (arith, a)

-- before any node has added its size
pub sizes_all_one : (parents : List (Option ℕ)) (order : List ℕ) → IsForest parents order → (ones : List ℕ) → ones ≡ replicate (length parents + 1) 1 → AreSizes parents order (set ones (length parents) 0) (length order)
sizes_all_one parents order forest ones e = sizes_begin parents order forest (set ones (length parents) 0) (length order) (omega arith) refl (length-set ones (length parents) 0 ∙ long) (λ s l. elim (cases_eq s (length parents)) [
  | inl q ↦ subst (λ t. size_at (set ones (length parents) 0) t ≡ own_size parents t) (sym q) (get_or-set_same ones (length parents) 0 0 (omega (arith, long)) ∙ sym (at_eq (length parents) (length parents) 0 1 refl))
  | inr ne ↦ get_or-set_other ones (length parents) s 0 0 ne ∙ ap (λ xs. get_or xs s 0) e ∙ get_or-replicate (length parents + 1) s 1 0 (omega (arith, l)) ∙ sym (at_ne s (length parents) 0 1 ne)
])
  where
    long : length ones ≡ length parents + 1
    long = ap (λ xs. length xs) e ∙ length-replicate (length parents + 1) 1
