-- A member of a list, by recursion.
use Rattle.std.proofs.Common.{◌≡◌, ℕ, zero, suc, ◌<◌, List, [], ◌∷◌, ◌++◌, length, get_or, refl, sym, ap, subst, ◌⊎◌, inl, inr, arith}
use Rattle.std.specs.Prelude.{map}
use Rattle.std.specs.List.{Contains, AllByRecursion, flat_map}
use Rattle.std.proofs.lemmas.List.Concat.{flat_map-cons}

abbrev pub Among : {X : Type 0} → X → List X → Type 0
Among x [] = ⊥
Among x (y ∷ ys) = (y ≡ x) ⊎ Among x ys

module _ {X : Type 0} where
  pub Contains-among : (x : X) (ys : List X) → Among x ys → Contains ys x
  Contains-among x [] h = absurd h
  Contains-among x (y ∷ ys) (inl e) = (0, omega arith, e)
  Contains-among x (y ∷ ys) (inr h) = let c = Contains-among x ys h in (suc c.0, (let lt = c.1 in omega arith), c.2)

  pub among_at : (ys : List X) (k : ℕ) (d : X) → k < length ys → Among (get_or ys k d) ys
  among_at [] k d lt = absurd (omega arith)
  among_at (y ∷ ys) zero d lt = inl refl
  among_at (y ∷ ys) (suc k) d lt = inr (among_at ys k d (omega arith))

  pub among_from_contains : (x : X) (ys : List X) → Contains ys x → Among x ys
  among_from_contains x ys c = subst (λ (z : X). Among z ys) c.2 (among_at ys c.0 x c.1)

  -- where it stands
  pub place_of : (x d : X) (ys : List X) → Among x ys → (k : ℕ) × (k < length ys) × (get_or ys k d ≡ x)
  place_of x d [] h = absurd h
  place_of x d (y ∷ ys) (inl e) = (0, omega arith, e)
  place_of x d (y ∷ ys) (inr h) = let c = place_of x d ys h in (suc c.0, (let lt = c.1 in omega arith), c.2)

  pub among_left : (x : X) (xs ys : List X) → Among x xs → Among x (xs ++ ys)
  among_left x [] ys h = absurd h
  among_left x (z ∷ xs) ys (inl e) = inl e
  among_left x (z ∷ xs) ys (inr h) = inr (among_left x xs ys h)

  pub among_right : (x : X) (xs ys : List X) → Among x ys → Among x (xs ++ ys)
  among_right x [] ys h = h
  among_right x (z ∷ xs) ys h = inr (among_right x xs ys h)

  pub among_either : (x : X) (xs ys : List X) → Among x (xs ++ ys) → Among x xs ⊎ Among x ys
  among_either x [] ys h = inr h
  among_either x (z ∷ xs) ys (inl e) = inl (inl e)
  among_either x (z ∷ xs) ys (inr h) = later (among_either x xs ys h)
    where
      later : Among x xs ⊎ Among x ys → Among x (z ∷ xs) ⊎ Among x ys
      later (inl g) = inl (inr g)
      later (inr g) = inr g

  pub among_all : (P : X → Type 0) (ys : List X) (x : X) → AllByRecursion P ys → Among x ys → P x
  among_all P [] x all h = absurd h
  among_all P (y ∷ ys) x all (inl e) = subst P e all.0
  among_all P (y ∷ ys) x all (inr h) = among_all P ys x all.1 h

  pub all_from_among : (P : X → Type 0) (ys : List X) → ((z : X) → Among z ys → P z) → AllByRecursion P ys
  all_from_among P [] each = tt
  all_from_among P (y ∷ ys) each = (each y (inl refl), all_from_among P ys (λ z h. each z (inr h)))

  pub all_left : (P : X → Type 0) (xs ys : List X) → AllByRecursion P (xs ++ ys) → AllByRecursion P xs
  all_left P [] ys all = tt
  all_left P (x ∷ xs) ys all = (all.0, all_left P xs ys all.1)

  pub all_right : (P : X → Type 0) (xs ys : List X) → AllByRecursion P (xs ++ ys) → AllByRecursion P ys
  all_right P [] ys all = all
  all_right P (x ∷ xs) ys all = all_right P xs ys all.1

module _ {X Y : Type 0} (f : X → Y) where
  pub among_map : (x : X) (xs : List X) → Among x xs → Among (f x) (map f xs)
  among_map x [] h = absurd h
  among_map x (z ∷ xs) (inl e) = inl (ap f e)
  among_map x (z ∷ xs) (inr h) = inr (among_map x xs h)

  pub map_among : (y : Y) (xs : List X) → Among y (map f xs) → (x : X) × Among x xs × (f x ≡ y)
  map_among y [] h = absurd h
  map_among y (z ∷ xs) (inl e) = (z, inl refl, e)
  map_among y (z ∷ xs) (inr h) = let m = map_among y xs h in (m.0, inr m.1, m.2)

module _ {X Y : Type 0} (f : X → List Y) where
  pub among_flat : (x : X) (y : Y) (xs : List X) → Among x xs → Among y (f x) → Among y (flat_map f xs)
  among_flat x y [] h g = absurd h
  among_flat x y (z ∷ xs) (inl e) g = rw flat_map-cons (among_left y (f z) (flat_map f xs) (subst (λ (w : X). Among y (f w)) (sym e) g))
  among_flat x y (z ∷ xs) (inr h) g = rw flat_map-cons (among_right y (f z) (flat_map f xs) (among_flat x y xs h g))

  pub flat_among : (y : Y) (xs : List X) → Among y (flat_map f xs) → (x : X) × Among x xs × Among y (f x)
  flat_among y [] h = absurd h
  flat_among y (z ∷ xs) h = later (among_either y (f z) (flat_map f xs) (rw flat_map-cons at h)) (flat_among y xs)
    where
      later : Among y (f z) ⊎ Among y (flat_map f xs) → (Among y (flat_map f xs) → (x : X) × Among x xs × Among y (f x)) → (x : X) × Among x (z ∷ xs) × Among y (f x)
      later (inl g) next = (z, inl refl, g)
      later (inr g) next = let n = next g in (n.0, inr n.1, n.2)

  pub all_flat : (P : Y → Type 0) (xs : List X) → AllByRecursion P (flat_map f xs) → AllByRecursion (λ x. AllByRecursion P (f x)) xs
  all_flat P [] all = tt
  all_flat P (z ∷ xs) all = let split = rw flat_map-cons at all in (all_left P (f z) (flat_map f xs) split, all_flat P xs (all_right P (f z) (flat_map f xs) split))

-- a list that a function leaves as it is
pub map_same : {X : Type 0} (f : X → X) (P : X → Type 0) → ((x : X) → P x → f x ≡ x) → (xs : List X) → AllByRecursion P xs → map f xs ≡ xs
map_same f P each [] all = refl
map_same f P each (x ∷ xs) all = let a = each x all.0 in let b = map_same f P each xs all.1 in cc

pub map_map : {X Y Z : Type 0} (g : Y → Z) (f : X → Y) (xs : List X) → map g (map f xs) ≡ map (λ x. g (f x)) xs
map_map g f [] = refl
map_map g f (x ∷ xs) = ap (λ l. g (f x) ∷ l) (map_map g f xs)

pub map_append : {X Y : Type 0} (f : X → Y) (xs ys : List X) → map f (xs ++ ys) ≡ map f xs ++ map f ys
map_append f [] ys = refl
map_append f (x ∷ xs) ys = ap (λ l. f x ∷ l) (map_append f xs ys)

-- going over the images
pub flat_map_map : {X Y Z W : Type 0} (h : Y → List Z) (f : X → Y) (k : W → Z) (u : X → List W) → ((x : X) → h (f x) ≡ map k (u x)) → (xs : List X) → flat_map h (map f xs) ≡ map k (flat_map u xs)
flat_map_map h f k u each [] = refl
flat_map_map h f k u each (x ∷ xs) = rw (flat_map-cons h, flat_map-cons u, map_append k (u x) (flat_map u xs), each x, flat_map_map h f k u each xs) refl
