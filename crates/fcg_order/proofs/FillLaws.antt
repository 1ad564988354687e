-- Marks that are handed on along the order.
use Rattle.std.proofs.Common.{◌≡◌, ℕ, suc, ◌+◌, ◌<◌, ◌≤◌, List, [], ◌∷◌, ◌++◌, length, get_or, set, take, drop, min, refl, sym, ap, subst, ◌∙◌, inl, inr, arith}
use Rattle.std.proofs.Math.Seq.{drop-cons}
use Rattle.std.specs.Prelude.{Bool, true, false, ◌||◌, Contains}
use Rattle.std.proofs.lemmas.Bool.{cases_eq, or_cases}
use Rattle.std.proofs.lemmas.List.{length-set, get_or-set_same, get_or-set_other, get_or-take, get_or_default, length-take, take-append-drop}
use Rattle.fcg_order.specs.Links.{row, HasLink, IsWithin, first_link, IsCircular}
use Rattle.fcg_order.specs.Order.{IsOrder}
use Rattle.fcg_order.specs.Fill.{any_marked, ReachesMark, IsFilled}
use Rattle.fcg_order.proofs.WalkLaws.{joined}

-- marks that are the same at these nodes
any_same : (a b : List Bool) (ns : List ℕ) → ((n : ℕ) → Contains ns n → get_or a n false ≡ get_or b n false) → any_marked a ns ≡ any_marked b ns
any_same a b [] h = refl
any_same a b (n ∷ ns) h =
    ap (λ x. x || any_marked a ns) (h n (0, omega arith, refl))
    ∙ ap (λ x. get_or b n false || x) (any_same a b ns (λ m c. h m (suc c.0, (let l = c.1 in omega arith), c.2)))

-- one of the nodes has the mark
from_any_marked : (marks : List Bool) (ns : List ℕ) → any_marked marks ns ≡ true → (y : ℕ) × Contains ns y × (get_or marks y false ≡ true)
from_any_marked marks [] h = absurd (cc)
from_any_marked marks (n ∷ ns) h = elim (or_cases (get_or marks n false) (any_marked marks ns) h) [
  | inl e ↦ (n, (0, omega arith, refl), e)
  | inr e ↦ (let r = from_any_marked marks ns e in let l : r.1.0 < length ns = r.1.1 in (r.0, (suc r.1.0, omega arith, r.1.2), r.2))
]

-- what leads to a node with a walk to a mark has one too
reaches_by : (rows : List (List ℕ)) (marks : List Bool) (x y : ℕ) → HasLink rows x y → ReachesMark rows marks y → ReachesMark rows marks x
reaches_by rows marks x y l (inl e) = inr (y, first_link l, e)
reaches_by rows marks x y l (inr r) = inr (r.0, joined (first_link l) r.1, r.2)

-- after i nodes of the order
pub record IsFilledTo (rows : List (List ℕ)) (order : List ℕ) (old new : List Bool) (i : ℕ) : Type 0 where
  pub long : length new ≡ length rows
  pub kept : (x : ℕ) → get_or old x false ≡ true → get_or new x false ≡ true
  pub cause : (x : ℕ) → get_or new x false ≡ true → ReachesMark rows old x
  pub done : (k : ℕ) → k < i → ¬ IsCircular rows (get_or order k 0)
      → get_or new (get_or order k 0) false ≡ (get_or old (get_or order k 0) false || any_marked new (row rows (get_or order k 0)))
  pub left : (k : ℕ) → i ≤ k → k < length order → get_or new (get_or order k 0) false ≡ get_or old (get_or order k 0) false

pub filled_none : (rows : List (List ℕ)) (order : List ℕ) (old : List Bool) → length old ≡ length rows → IsFilledTo rows order old old 0
filled_none rows order old m = record { long = m; kept = λ x e. e; cause = λ x e. inl e; done = λ k l. absurd (omega arith); left = λ k a l. refl }

module _ (rows : List (List ℕ)) (order : List ℕ) (old : List Bool) (h : IsOrder rows order) where
  -- what stands in the order is a node
  pub order_below : (i : ℕ) → i < length order → get_or order i 0 < length rows
  order_below i l = (h.each (get_or order i 0)).0 (i, l, get_or_default order i (get_or order i 0) 0 l)

  -- what a node links to stands before it, and isn't a node that stands later
  earlier : (k i : ℕ) → k ≤ i → i < length order → ¬ IsCircular rows (get_or order k 0) → (y : ℕ) → Contains (row rows (get_or order k 0)) y → y ≡ get_or order i 0 → ⊥
  earlier k i l b c y e q =
      let small : k < length order = omega arith in
      let parts : order ≡ take k order ++ get_or order k 0 ∷ drop (suc k) order = sym (take-append-drop k order) ∙ ap (λ xs. take k order ++ xs) (drop-cons order k 0 small) in
      let t = h.after (take k order) (drop (suc k) order) (get_or order k 0) y parts c e in
      let m : length (take k order) ≡ min k (length order) = length-take k order in
      let a : t.0 < length (take k order) = t.1 in
      let same : get_or order t.0 0 ≡ y = get_or_default order t.0 0 y (omega arith) ∙ sym (get_or-take k order t.0 y (omega arith)) ∙ t.2 in
      h.once t.0 i 0 (omega arith) b (same ∙ q)

  pub filled_more : (new : List Bool) (i : ℕ) (b : Bool) → i < length order → IsFilledTo rows order old new i
      → b ≡ (get_or new (get_or order i 0) false || any_marked new (row rows (get_or order i 0)))
      → IsFilledTo rows order old (set new (get_or order i 0) b) (i + 1)
  filled_more new i b l f e = record {
    long = length-set new (get_or order i 0) b ∙ f.long;
    kept = kept;
    cause = cause;
    done = done;
    left = λ k a c. get_or-set_other new (get_or order i 0) (get_or order k 0) b false (λ q. h.once i k 0 (omega arith) c (sym q)) ∙ f.left k (omega arith) c;
  }
    where
      x : ℕ
      x = get_or order i 0

      small : x < length new
      small = let a = order_below i l in let m = f.long in omega arith

      kept : (y : ℕ) → get_or old y false ≡ true → get_or (set new x b) y false ≡ true
      kept y o = elim (cases_eq y x) [
        | inl q ↦ subst (λ z. get_or (set new x b) z false ≡ true) (sym q)
            (get_or-set_same new x b false small ∙ e ∙ ap (λ m. m || any_marked new (row rows x)) (ap (λ z. get_or new z false) (sym q) ∙ f.kept y o))
        | inr ne ↦ get_or-set_other new x y b false ne ∙ f.kept y o
      ]

      cause : (y : ℕ) → get_or (set new x b) y false ≡ true → ReachesMark rows old y
      cause y m = elim (cases_eq y x) [
        | inl q ↦ subst (ReachesMark rows old) (sym q) (elim (or_cases (get_or new x false) (any_marked new (row rows x)) (sym e ∙ sym (get_or-set_same new x b false small) ∙ subst (λ z. get_or (set new x b) z false ≡ true) q m)) [
          | inl o ↦ f.cause x o
          | inr o ↦ (let t = from_any_marked new (row rows x) o in reaches_by rows old x t.0 t.1 (f.cause t.0 t.2))
        ])
        | inr ne ↦ f.cause y (sym (get_or-set_other new x y b false ne) ∙ m)
      ]

      same_any : (k : ℕ) → k ≤ i → ¬ IsCircular rows (get_or order k 0) → any_marked new (row rows (get_or order k 0)) ≡ any_marked (set new x b) (row rows (get_or order k 0))
      same_any k a c = any_same new (set new x b) (row rows (get_or order k 0)) (λ n d. sym (get_or-set_other new x n b false (earlier k i a l c n d)))

      done : (k : ℕ) → k < i + 1 → ¬ IsCircular rows (get_or order k 0)
          → get_or (set new x b) (get_or order k 0) false ≡ (get_or old (get_or order k 0) false || any_marked (set new x b) (row rows (get_or order k 0)))
      done k a c = elim (cases_eq k i) [
        | inl q ↦ subst (λ j. get_or (set new x b) (get_or order j 0) false ≡ (get_or old (get_or order j 0) false || any_marked (set new x b) (row rows (get_or order j 0)))) (sym q)
            (get_or-set_same new x b false small ∙ e ∙ ap (λ o. o || any_marked new (row rows x)) (f.left i (omega arith) l)
            ∙ ap (λ o. get_or old x false || o) (same_any i (omega arith) (subst (λ j. ¬ IsCircular rows (get_or order j 0)) q c)))
        | inr ne ↦ get_or-set_other new x (get_or order k 0) b false (λ q. h.once k i 0 (omega arith) l q) ∙ f.done k (omega arith) c
            ∙ ap (λ o. get_or old (get_or order k 0) false || o) (same_any k (omega arith) c)
      ]

  pub filled_all : (new : List Bool) → IsFilledTo rows order old new (length order) → IsFilled rows old new
  filled_all new f = record {
    long = f.long;
    kept = f.kept;
    cause = f.cause;
    each = λ x l c. (let t = (h.each x).1 l in
        let same : get_or order t.0 0 ≡ x = get_or_default order t.0 0 x t.1 ∙ t.2 in
        subst (λ y. get_or new y false ≡ (get_or old y false || any_marked new (row rows y))) same
        (f.done t.0 t.1 (subst (λ y. ¬ IsCircular rows y) (sym same) c)));
  }

-- what a row has is a node
pub row_below : (rows : List (List ℕ)) → IsWithin rows → (x k d : ℕ) → k < length (row rows x) → get_or (row rows x) k d < length rows
row_below rows w x k d l = w.each x (get_or (row rows x) k d) (k, l, get_or_default (row rows x) k (get_or (row rows x) k d) d l)
