-- Two lists, place by place.
use Rattle.std.proofs.Common.{◌≡◌, ℕ, zero, suc, List, [], ◌∷◌, ◌++◌, length, refl, ap, subst}
use Rattle.std.specs.Prelude.{Bool, true, false, map, slice_get, Some}
use Rattle.std.specs.List.{AllZip}
use Rattle.fcg_join.specs.Winners.{marked}

module _ {A B : Type 0} (R : A → B → Type 0) where
  -- to each element of the second list stands one of the first, and the other way round
  pub zip_right : (xs : List A) (ys : List B) → AllZip R xs ys → (i : ℕ) (y : B) → slice_get ys i ≡ Some y → (x : A) × (slice_get xs i ≡ Some x) × R x y
  zip_right [] [] all i y e = absurd cc
  zip_right [] (b ∷ ys) all i y e = absurd all
  zip_right (a ∷ xs) [] all i y e = absurd all
  zip_right (a ∷ xs) (b ∷ ys) all zero y e = (a, refl, (let same : b ≡ y = cc in subst (R a) same all.0))
  zip_right (a ∷ xs) (b ∷ ys) all (suc i) y e = zip_right xs ys all.1 i y e

  pub zip_left : (xs : List A) (ys : List B) → AllZip R xs ys → (i : ℕ) (x : A) → slice_get xs i ≡ Some x → (y : B) × (slice_get ys i ≡ Some y) × R x y
  zip_left [] [] all i x e = absurd cc
  zip_left [] (b ∷ ys) all i x e = absurd all
  zip_left (a ∷ xs) [] all i x e = absurd all
  zip_left (a ∷ xs) (b ∷ ys) all zero x e = (b, refl, (let same : a ≡ x = cc in subst (λ (z : A). R z b) same all.0))
  zip_left (a ∷ xs) (b ∷ ys) all (suc i) x e = zip_left xs ys all.1 i x e

  pub zip_long : (xs : List A) (ys : List B) → AllZip R xs ys → length xs ≡ length ys
  zip_long [] [] all = refl
  zip_long [] (b ∷ ys) all = absurd all
  zip_long (a ∷ xs) [] all = absurd all
  zip_long (a ∷ xs) (b ∷ ys) all = ap suc (zip_long xs ys all.1)

  pub zip_both : (xs us : List A) (ys vs : List B) → AllZip R xs ys → AllZip R us vs → AllZip R (xs ++ us) (ys ++ vs)
  zip_both [] us [] vs all more = more
  zip_both [] us (b ∷ ys) vs all more = absurd all
  zip_both (a ∷ xs) us [] vs all more = absurd all
  zip_both (a ∷ xs) us (b ∷ ys) vs all more = (all.0, zip_both xs us ys vs all.1 more)

  pub zip_map : {C : Type 0} (f : A → C) (g : B → C) → ((x : A) (y : B) → R x y → f x ≡ g y) → (xs : List A) (ys : List B) → AllZip R xs ys → map f xs ≡ map g ys
  zip_map f g h [] [] all = refl
  zip_map f g h [] (b ∷ ys) all = absurd all
  zip_map f g h (a ∷ xs) [] all = absurd all
  zip_map f g h (a ∷ xs) (b ∷ ys) all = (let first = h a b all.0 in let rest = zip_map f g h xs ys all.1 in λ i. first i ∷ rest i)

  pub zip_marked : (ms : List Bool) (xs : List A) (ys : List B) → AllZip R xs ys → AllZip R (marked ms xs) (marked ms ys)
  zip_marked [] xs ys all = tt
  zip_marked (m ∷ ms) [] [] all = tt
  zip_marked (m ∷ ms) [] (b ∷ ys) all = absurd all
  zip_marked (m ∷ ms) (a ∷ xs) [] all = absurd all
  zip_marked (true ∷ ms) (a ∷ xs) (b ∷ ys) all = (all.0, zip_marked ms xs ys all.1)
  zip_marked (false ∷ ms) (a ∷ xs) (b ∷ ys) all = zip_marked ms xs ys all.1
