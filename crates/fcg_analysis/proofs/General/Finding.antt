-- What two tests find, one after the other, and lists that are filtered alike.
use Rattle.std.proofs.Common.{◌≡◌, List, [], ◌∷◌, ◌++◌, refl, sym, ap, ◌∙◌, inl, inr}
use Rattle.std.specs.Prelude.{Bool, true, false, cond, ◌&&◌, ◌||◌, filter, find, Option, Some, None}
use Rattle.std.specs.List.{list_any}
use Rattle.std.proofs.lemmas.Bool.{and_from, or_cases, or_left, or_right}
use Rattle.std.specs.Cmp.{both_ways}
use Rattle.fcg_analysis.proofs.General.Members.{IsIn, find_in, find_none, in_any, any_in, kept, and_first, and_second}

-- ---- tests that agree on the elements

pub filter_alike : {X : Type 0} (p q : X → Bool) (xs : List X) → ((x : X) → IsIn x xs → p x ≡ q x) → filter p xs ≡ filter q xs
filter_alike p q [] h = refl
filter_alike p q (x ∷ xs) h = ap (λ b. cond b (x ∷ filter p xs) (filter p xs)) (h x (inl refl)) ∙ ap (λ ys. cond (q x) (x ∷ ys) ys) (filter_alike p q xs (λ y k. h y (inr k)))

pub any_alike : {X : Type 0} (p q : X → Bool) (xs : List X) → ((x : X) → IsIn x xs → p x ≡ q x) → list_any p xs ≡ list_any q xs
any_alike p q [] h = refl
any_alike p q (x ∷ xs) h = ap (λ b. b || list_any p xs) (h x (inl refl)) ∙ ap (λ b. q x || b) (any_alike p q xs (λ y k. h y (inr k)))

-- where each passes
pub filter_all : {X : Type 0} (p : X → Bool) (xs : List X) → ((x : X) → IsIn x xs → p x ≡ true) → filter p xs ≡ xs
filter_all p [] h = refl
filter_all p (x ∷ xs) h = ap (λ b. cond b (x ∷ filter p xs) (filter p xs)) (h x (inl refl)) ∙ ap (λ ys. x ∷ ys) (filter_all p xs (λ y k. h y (inr k)))

-- one test or another, the second only on a condition
pub any_or : {X : Type 0} (a c : X → Bool) (b : Bool) (xs : List X) → list_any (λ u. a u || (b && c u)) xs ≡ (list_any a xs || (b && list_any c xs))
any_or a c b xs = both_ways (list_any (λ u. a u || (b && c u)) xs) (list_any a xs || (b && list_any c xs))
    (λ h. (let r = in_any (λ u. a u || (b && c u)) xs h in
    elim (or_cases (a r.0) (b && c r.0) r.2) [
      | inl e ↦ or_left (list_any a xs) (b && list_any c xs) (any_in a xs r.0 r.1 e)
      | inr e ↦ or_right (list_any a xs) (b && list_any c xs) (and_from b (list_any c xs) (and_first b (c r.0) e) (any_in c xs r.0 r.1 (and_second b (c r.0) e)))
    ]))
    (λ h. (elim (or_cases (list_any a xs) (b && list_any c xs) h) [
      | inl e ↦ (let r = in_any a xs e in any_in (λ u. a u || (b && c u)) xs r.0 r.1 (or_left (a r.0) (b && c r.0) r.2))
      | inr e ↦ (let r = in_any c xs (and_second b (list_any c xs) e) in
          any_in (λ u. a u || (b && c u)) xs r.0 r.1 (or_right (a r.0) (b && c r.0) (and_from b (c r.0) (and_first b (list_any c xs) e) r.2)))
    ]))

-- ---- an element stands between what is before it and what is after it

pub record Parted {X : Type 0} (xs : List X) (x : X) : Type 0 where
  pub front : List X
  pub rest : List X
  pub whole : xs ≡ front ++ (x ∷ rest)

pub parted : {X : Type 0} (xs : List X) (x : X) → IsIn x xs → Parted xs x
parted [] x h = absurd h
parted (y ∷ ys) x (inl e) = record { front = []; rest = ys; whole = ap (λ v. v ∷ ys) e }
parted (y ∷ ys) x (inr h) = let r = parted ys x h in record { front = y ∷ r.front; rest = r.rest; whole = ap (λ zs. y ∷ zs) r.whole }

-- ---- two tests are one after the other

pub find_both : {X : Type 0} (a b : X → Bool) (xs : List X) → find (λ x. a x && b x) xs ≡ find b (filter a xs)
find_both a b [] = refl
find_both {X} a b (x ∷ xs) = at (a x) (find_both a b xs)
  where
    at : (p : Bool) → find (λ x. a x && b x) xs ≡ find b (filter a xs)
        → cond (p && b x) (Some x) (find (λ x. a x && b x) xs) ≡ find b (cond p (x ∷ filter a xs) (filter a xs))
    at true r = ap (λ o. cond (b x) (Some x) o) r
    at false r = r

-- one element at most passes the first test, and the second test asks for more
pub find_more : {X : Type 0} (p q : X → Bool) → ((x : X) → q x ≡ true → p x ≡ true) → (xs : List X) → ((x y : X) → IsIn x xs → IsIn y xs → p x ≡ true → p y ≡ true → x ≡ y) → find q xs ≡ kept q (find p xs)
find_more p q more [] u = refl
find_more {X} p q more (y ∷ ys) u = at (p y) (q y) refl refl (find_more p q more ys (λ x z h k. u x z (inr h) (inr k)))
  where
    none : (o : Option X) → find q ys ≡ o → p y ≡ true → q y ≡ false → o ≡ None
    none None e a b = refl
    none (Some x) e a b =
        let f = find_in q ys x e in
        let same : x ≡ y = u x y (inr f.0) (inl refl) (more x f.1) a in
        let t : q y ≡ true = sym (ap q same) ∙ f.1 in
        absurd (cc)

    at : (b c : Bool) → p y ≡ b → q y ≡ c → find q ys ≡ kept q (find p ys)
        → cond c (Some y) (find q ys) ≡ kept q (cond b (Some y) (find p ys))
    at true true e f r = sym (ap (λ v. cond v (Some y) None) f)
    at true false e f r = none (find q ys) refl e f ∙ sym (ap (λ v. cond v (Some y) None) f)
    at false true e f r = absurd (let t = more y f in cc)
    at false false e f r = r

-- what passes alone is found
pub find_only : {X : Type 0} (p : X → Bool) (xs : List X) (x : X) → IsIn x xs → p x ≡ true → ((y : X) → IsIn y xs → p y ≡ true → y ≡ x) → find p xs ≡ Some x
find_only {X} p xs x h t u = at (find p xs) refl
  where
    at : (o : Option X) → find p xs ≡ o → find p xs ≡ Some x
    at None e = absurd (find_none p xs x e h t)
    at (Some y) e = let f = find_in p xs y e in e ∙ ap Some (u y f.0 f.1)
