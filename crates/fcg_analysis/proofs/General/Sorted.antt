-- Lists that rise strictly.
use Rattle.std.proofs.Common.{◌≡◌, List, [], ◌∷◌, ◌++◌, refl, sym, ap, subst, ◌∙◌, inl, inr}
use Rattle.std.specs.Prelude.{◌⊎◌}
use Rattle.std.specs.List.{AllByRecursion}
use Rattle.std.specs.declared.cmp.Ordering.{Ordering}
use Rattle.std.specs.declared.cmp.Ordering.TheVariants.{Less, Greater}
use Rattle.std.specs.Ordering.{ordering_reverse}
use Rattle.std.specs.Cmp.{IsTotalOrder}
use Rattle.std.specs.List.Sorted.{IsStrictlySortedBy}
use Rattle.fcg_analysis.proofs.General.Members.{IsIn}

pub all_from_in : {X : Type 0} (P : X → Type 0) (xs : List X) → ((x : X) → IsIn x xs → P x) → AllByRecursion P xs
all_from_in P [] h = tt
all_from_in P (x ∷ xs) h = (h x (inl refl), all_from_in P xs (λ y k. h y (inr k)))

pub in_all : {X : Type 0} (P : X → Type 0) (xs : List X) (x : X) → AllByRecursion P xs → IsIn x xs → P x
in_all P [] x a h = absurd h
in_all P (y ∷ ys) x a (inl e) = subst P e a.0
in_all P (y ∷ ys) x a (inr h) = in_all P ys x a.1 h

pub all_joined : {X : Type 0} (P : X → Type 0) (xs ys : List X) → AllByRecursion P xs → AllByRecursion P ys → AllByRecursion P (xs ++ ys)
all_joined P [] ys a b = b
all_joined P (x ∷ xs) ys a b = (a.0, all_joined P xs ys a.1 b)

-- two lists, all of the first before all of the second
pub sorted_joined : {X : Type 0} (c : X → X → Ordering) (xs ys : List X) → IsStrictlySortedBy c xs → IsStrictlySortedBy c ys
    → ((x y : X) → IsIn x xs → IsIn y ys → c x y ≡ Less) → IsStrictlySortedBy c (xs ++ ys)
unfolding IsStrictlySortedBy
sorted_joined c [] ys s t h = t
sorted_joined c (x ∷ xs) ys s t h =
    (all_joined (λ y. c x y ≡ Less) xs ys s.0 (all_from_in (λ y. c x y ≡ Less) ys (λ y k. h x y (inl refl) k)), sorted_joined c xs ys s.1 t (λ z y i k. h z y (inr i) k))

asym : {X : Type 0} (c : X → X → Ordering) → IsTotalOrder c → (x y : X) → c x y ≡ Less → c y x ≡ Less → ⊥
asym c o x y h k = let e : Less ≡ Greater = sym h ∙ o.antisymm x y ∙ ap ordering_reverse k in cc

-- two lists with the same members are one
pub one_sorted : {X : Type 0} (c : X → X → Ordering) → IsTotalOrder c → (xs ys : List X)
    → IsStrictlySortedBy c xs → IsStrictlySortedBy c ys → ((x : X) → IsIn x xs → IsIn x ys) → ((x : X) → IsIn x ys → IsIn x xs) → xs ≡ ys
unfolding IsStrictlySortedBy
one_sorted c o [] [] s t f g = refl
one_sorted c o [] (y ∷ ys) s t f g = absurd (g y (inl refl))
one_sorted c o (x ∷ xs) [] s t f g = absurd (f x (inl refl))
one_sorted {X} c o (x ∷ xs) (y ∷ ys) s t f g =
    let rest : xs ≡ ys = one_sorted c o xs ys s.1 t.1 (λ z h. forth z h (f z (inr h))) (λ z h. back z h (g z (inr h))) in
    λ i. same i ∷ rest i
  where
    heads : (y ≡ x) ⊎ IsIn x ys → (x ≡ y) ⊎ IsIn y xs → x ≡ y
    heads (inl e) k = sym e
    heads (inr h) (inl e) = e
    heads (inr h) (inr k) = absurd (asym c o x y (in_all (λ z. c x z ≡ Less) xs y s.0 k) (in_all (λ z. c y z ≡ Less) ys x t.0 h))

    same : x ≡ y
    same = heads (f x (inl refl)) (g y (inl refl))

    forth : (z : X) → IsIn z xs → (y ≡ z) ⊎ IsIn z ys → IsIn z ys
    forth z h (inl e) = absurd (let l : c x z ≡ Less = in_all (λ w. c x w ≡ Less) xs z s.0 h in let k : c x x ≡ Less = subst (λ w. c x w ≡ Less) (sym e ∙ sym same) l in asym c o x x k k)
    forth z h (inr k) = k

    back : (z : X) → IsIn z ys → (x ≡ z) ⊎ IsIn z xs → IsIn z xs
    back z h (inl e) = absurd (let l : c y z ≡ Less = in_all (λ w. c y w ≡ Less) ys z t.0 h in let k : c y y ≡ Less = subst (λ w. c y w ≡ Less) (sym e ∙ same) l in asym c o y y k k)
    back z h (inr k) = k
