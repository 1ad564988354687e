-- Elements by their places: in joined lists, and in lists of lists.
use Rattle.std.proofs.Common.{◌≡◌, ℕ, zero, suc, ◌+◌, ◌<◌, List, [], ◌∷◌, ◌++◌, length, take, refl, sym, ap, subst, ◌∙◌, inl, inr, arith}
use Rattle.std.specs.Prelude.{Some, ◌⊎◌, slice_get, flat_map, sum_by, Contains}
use Rattle.std.proofs.lemmas.List.Sums.{sum_by-cons}
use Rattle.std.proofs.lemmas.Option.{slice_get_within, slice_get_read, get_or_from_slice_get}

-- ---- places and members

pub place_of_member : {X : Type 0} (xs : List X) (x : X) → Contains xs x → (k : ℕ) × (slice_get xs k ≡ Some x)
place_of_member xs x c = (c.0, slice_get_read xs (length xs) c.0 x refl c.1 (sym c.2))

pub member_at : {X : Type 0} (xs : List X) (k : ℕ) (x : X) → slice_get xs k ≡ Some x → Contains xs x
member_at xs k x h = (k, slice_get_within xs k x h, get_or_from_slice_get xs k x x h)

pub some_at : {X : Type 0} (xs : List X) (k : ℕ) → k < length xs → (x : X) × (slice_get xs k ≡ Some x)
some_at [] k l = absurd (omega arith)
some_at (x ∷ xs) zero l = (x, refl)
some_at (x ∷ xs) (suc k) l = some_at xs k (omega arith)

pub same_at : {X : Type 0} (xs : List X) (k : ℕ) (x y : X) → slice_get xs k ≡ Some x → slice_get xs k ≡ Some y → x ≡ y
same_at xs k x y h i = let e : Some x ≡ Some y = sym h ∙ i in cc

-- ---- joined lists

pub get_left : {X : Type 0} (xs ys : List X) (k : ℕ) (x : X) → slice_get xs k ≡ Some x → slice_get (xs ++ ys) k ≡ Some x
get_left [] ys k x h = absurd (cc)
get_left (y ∷ xs) ys zero x h = h
get_left (y ∷ xs) ys (suc k) x h = get_left xs ys k x h

pub get_right : {X : Type 0} (xs ys : List X) (k : ℕ) → slice_get (xs ++ ys) (length xs + k) ≡ slice_get ys k
get_right {X} [] ys k = let e : length {A = X} [] + k ≡ k = omega arith in ap (slice_get ys) e
get_right (x ∷ xs) ys k = let e : length (x ∷ xs) + k ≡ suc (length xs + k) = omega arith in ap (slice_get (x ∷ (xs ++ ys))) e ∙ get_right xs ys k

-- an element of joined lists stands in the first or in the second
pub get_joined : {X : Type 0} (xs ys : List X) (n : ℕ) (x : X) → slice_get (xs ++ ys) n ≡ Some x
    → (slice_get xs n ≡ Some x) ⊎ ((k : ℕ) × (n ≡ length xs + k) × (slice_get ys k ≡ Some x))
get_joined {X} [] ys n x h = let e : n ≡ length {A = X} [] + n = omega arith in inr (n, e, h)
get_joined (y ∷ xs) ys zero x h = inl h
get_joined (y ∷ xs) ys (suc n) x h =
    elim (get_joined xs ys n x h) [
      | inl e ↦ inl e
      | inr r ↦ (let e : n ≡ length xs + r.0 = r.1 in let f : suc n ≡ length (y ∷ xs) + r.0 = omega arith in inr (r.0, f, r.2))
    ]

-- ---- lists of lists

-- how many stand in the lists of the first elements
abbrev pub before_place : {X Y : Type 0} → (X → List Y) → List X → ℕ → ℕ
before_place f xs x = sum_by (λ a. length (f a)) (take x xs)

pub get_flat_map : {X Y : Type 0} (f : X → List Y) (xs : List X) (x k : ℕ) (a : X) (y : Y)
    → slice_get xs x ≡ Some a → slice_get (f a) k ≡ Some y → slice_get (flat_map f xs) (before_place f xs x + k) ≡ Some y
get_flat_map f [] x k a y h i = absurd (cc)
get_flat_map f (b ∷ xs) zero k a y h i =
    let same : b ≡ a = cc in
    let e : 0 + k ≡ k = omega arith in
    ap (slice_get (f b ++ flat_map f xs)) e ∙ get_left (f b) (flat_map f xs) k y (subst (λ c. slice_get (f c) k ≡ Some y) (sym same) i)
get_flat_map f (b ∷ xs) (suc x) k a y h i =
    let s : sum_by (λ a. length (f a)) (b ∷ take x xs) ≡ length (f b) + before_place f xs x = sum_by-cons (λ a. length (f a)) b (take x xs) in
    let e : before_place f (b ∷ xs) (suc x) + k ≡ length (f b) + (before_place f xs x + k) = omega (arith, s) in
    ap (slice_get (f b ++ flat_map f xs)) e ∙ get_right (f b) (flat_map f xs) (before_place f xs x + k) ∙ get_flat_map f xs x k a y h i

-- an element of the lists stands in the list of one of the elements
pub record StandsIn {X Y : Type 0} (f : X → List Y) (xs : List X) (n : ℕ) (y : Y) : Type 0 where
  pub place : ℕ
  pub element : X
  pub there : slice_get xs place ≡ Some element
  pub within : ℕ
  pub sum : n ≡ before_place f xs place + within
  pub here : slice_get (f element) within ≡ Some y

pub stands_in : {X Y : Type 0} (f : X → List Y) (xs : List X) (n : ℕ) (y : Y) → slice_get (flat_map f xs) n ≡ Some y → StandsIn f xs n y
stands_in f [] n y h = absurd (cc)
stands_in f (b ∷ xs) n y h =
    elim (get_joined (f b) (flat_map f xs) n y h) [
      | inl e ↦ record { place = 0; element = b; there = refl; within = n; sum = omega arith; here = e }
      | inr r ↦ (let s = stands_in f xs r.0 y r.2 in
          let t : sum_by (λ a. length (f a)) (b ∷ take s.place xs) ≡ length (f b) + before_place f xs s.place = sum_by-cons (λ a. length (f a)) b (take s.place xs) in
          let u : n ≡ length (f b) + r.0 = r.1 in
          let v : r.0 ≡ before_place f xs s.place + s.within = s.sum in
          let w : n ≡ before_place f (b ∷ xs) (suc s.place) + s.within = omega (arith, t) in
          record { place = suc s.place; element = s.element; there = s.there; within = s.within; sum = w; here = s.here })
    ]
