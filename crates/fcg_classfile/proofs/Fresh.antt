-- Members of a list of which no earlier one is alike: said one by one, of the whole list, and of each two.
use Rattle.std.proofs.Common.{◌≡◌, suc, Bool, true, false, ◌||◌, List, [], ◌∷◌, ◌++◌, refl, sym, ap, ◌∙◌, arith}
use Rattle.std.specs.List.{list_any, All, AllByRecursion, AllPairs, IsDistinct}
use Rattle.std.proofs.lemmas.List.Elements.{All-from_recursion, recursion_from_All}
use Rattle.std.proofs.lemmas.List.Kept.{AllPairs-cons}
use Rattle.std.proofs.lemmas.List.Folds.{list_any-append}

either_false : (a b : Bool) → (a || b) ≡ false → (a ≡ false) × (b ≡ false)
either_false true b e = absurd cc
either_false false b e = (refl, e)

or_none : (b : Bool) → (b || false) ≡ b
or_none true = refl
or_none false = refl

module _ {X : Type 0} (alike : X → X → Bool) where
  -- no earlier one is alike
  abbrev pub IsFresh : List X → X → Type 0
  IsFresh earlier x = list_any (λ e. alike e x) earlier ≡ false

  -- each is fresh among the earlier ones and those before it
  abbrev pub AreFresh : List X → List X → Type 0
  AreFresh earlier [] = Unit {0}
  AreFresh earlier (x ∷ xs) = IsFresh earlier x × AreFresh (earlier ++ x ∷ []) xs

  pushed : (earlier : List X) (x y : X) → list_any (λ e. alike e y) (earlier ++ x ∷ []) ≡ (list_any (λ e. alike e y) earlier || alike x y)
  pushed earlier x y = list_any-append (λ e. alike e y) earlier (x ∷ []) ∙ ap (λ (b : Bool). list_any (λ e. alike e y) earlier || b) (or_none (alike x y))

  split : (earlier : List X) (x : X) (ys : List X) → AllByRecursion (IsFresh (earlier ++ x ∷ [])) ys → AllByRecursion (IsFresh earlier) ys × AllByRecursion (λ y. alike x y ≡ false) ys
  split earlier x [] h = (tt, tt)
  split earlier x (y ∷ ys) h =
      let here = either_false (list_any (λ e. alike e y) earlier) (alike x y) (sym (pushed earlier x y) ∙ h.0) in
      let others = split earlier x ys h.1 in
      ((here.0, others.0), (here.1, others.1))

  joined : (earlier : List X) (x : X) (ys : List X) → AllByRecursion (IsFresh earlier) ys → AllByRecursion (λ y. alike x y ≡ false) ys → AllByRecursion (IsFresh (earlier ++ x ∷ [])) ys
  joined earlier x [] h g = tt
  joined earlier x (y ∷ ys) h g = (pushed earlier x y ∙ rw (h.0, g.0) refl, joined earlier x ys h.1 g.1)

  apart : (earlier xs : List X) → AreFresh earlier xs → AllByRecursion (IsFresh earlier) xs × IsDistinct alike xs
  unfolding IsDistinct
  apart earlier [] h = (tt, tt)
  apart earlier (x ∷ xs) h =
      let below = apart (earlier ++ x ∷ []) xs h.1 in
      let parts = split earlier x xs below.0 in
      ((h.0, parts.0), (parts.1, below.1))

  fresh : (earlier xs : List X) → AllByRecursion (IsFresh earlier) xs → IsDistinct alike xs → AreFresh earlier xs
  unfolding IsDistinct
  fresh earlier [] h d = tt
  fresh earlier (x ∷ xs) h d = (h.0, fresh (earlier ++ x ∷ []) xs (joined earlier x xs h.1 d.0) d.1)

  none_earlier : (xs : List X) → AllByRecursion (IsFresh []) xs
  none_earlier [] = tt
  none_earlier (x ∷ xs) = (refl, none_earlier xs)

  pub distinct_found : (xs : List X) → AreFresh [] xs → IsDistinct alike xs
  distinct_found xs h = (apart [] xs h).1

  pub distinct_only : (xs : List X) → IsDistinct alike xs → AreFresh [] xs
  distinct_only xs d = fresh [] xs (none_earlier xs) d

module _ {X : Type 0} (alike : X → X → Bool) (R : X → X → Type 0) where
  each_apart : ((x y : X) → alike x y ≡ false → R x y) → (x : X) (ys : List X) → AllByRecursion (λ y. alike x y ≡ false) ys → AllByRecursion (R x) ys
  each_apart h x [] d = tt
  each_apart h x (y ∷ ys) d = (h x y d.0, each_apart h x ys d.1)

  pub pairs_found : ((x y : X) → alike x y ≡ false → R x y) → (xs : List X) → IsDistinct alike xs → AllPairs R xs
  unfolding IsDistinct
  pairs_found h [] d = λ i j e lt within. absurd (omega arith)
  pairs_found h (x ∷ xs) d = AllPairs-cons R x xs (All-from_recursion (R x) xs (each_apart h x xs d.0)) (pairs_found h xs d.1)

  pub pairs_only : ((x y : X) → R x y → alike x y ≡ false) → (xs : List X) → AllPairs R xs → IsDistinct alike xs
  unfolding IsDistinct
  pairs_only h [] p = tt
  pairs_only h (x ∷ xs) p =
      let first : All (λ y. alike x y ≡ false) xs = λ k d within. h x _ (p 0 (suc k) d (omega arith) (omega arith)) in
      let others : AllPairs R xs = λ i j d lt within. p (suc i) (suc j) d (omega arith) (omega arith) in
      (recursion_from_All (λ y. alike x y ≡ false) xs first, pairs_only h xs others)
