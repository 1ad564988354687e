-- Lists that are made one element after the other.
use Rattle.std.proofs.Common.{◌≡◌, ℕ, zero, suc, ◌+◌, ◌<◌, ◌≤◌, List, [], ◌∷◌, ◌++◌, length, get_or, take, drop, refl, sym, ap, ◌∙◌, arith}
use Rattle.std.specs.Prelude.{map, flat_map, All, slice_get, Some}
use Rattle.std.specs.List.{AllByRecursion, range_with_len}
use Rattle.std.proofs.lemmas.List.{append-nil, append_assoc, drop_more, drop_all, take_more, take_all, map-append, same_lists}
use Rattle.std.proofs.lemmas.List.FromFn.{length-map-range_with_len, get_or-map-range_with_len, map-range_with_len_more}
use Rattle.fcg_join.specs.Internal.Collected.{collected}

-- the elements of a list from a place on
module _ {X : Type 0} (xs : List X) where
  abbrev pub From : ℕ → List X → Type 0
  From i ys = (j : ℕ) → slice_get xs (i + j) ≡ slice_get ys j

  pub later : (i : ℕ) (y : X) (ys : List X) → From i (y ∷ ys) → From (i + 1) ys
  later i y ys h j = (let e : (i + 1) + j ≡ i + suc j = omega arith in ap (slice_get xs) e ∙ h (suc j))

  pub here : (i : ℕ) (y : X) (ys : List X) → From i (y ∷ ys) → slice_get xs i ≡ Some y
  here i y ys h = (let e : i ≡ i + 0 = omega arith in ap (slice_get xs) e ∙ h 0)

  pub from_start : From 0 xs
  from_start j = (let e : 0 + j ≡ j = omega arith in ap (slice_get xs) e)

module _ {X Y : Type 0} (f : ℕ → X → List Y) where
  -- one element more
  pub collected_next : (xs : List X) (i : ℕ) (x : X) (old new all : List Y) → i < length xs → x ≡ get_or xs i x → new ≡ old ++ f i x
      → old ++ collected f i (drop i xs) ≡ all → new ++ collected f (i + 1) (drop (i + 1) xs) ≡ all
  collected_next xs i x old new all l at e h =
      ap (λ ys. ys ++ collected f (i + 1) (drop (i + 1) xs)) e
      ∙ append_assoc old (f i x) (collected f (i + 1) (drop (i + 1) xs))
      ∙ ap (λ ys. old ++ ys) (sym (ap (collected f i) (drop_more xs i x l) ∙ ap (λ y. f i y ++ collected f (i + 1) (drop (i + 1) xs)) (sym at)))
      ∙ h

  pub collected_all : (xs : List X) (i : ℕ) (old all : List Y) → length xs ≤ i → old ++ collected f i (drop i xs) ≡ all → old ≡ all
  collected_all xs i old all l h = sym (append-nil old) ∙ ap (λ ys. old ++ ys) (sym (ap (collected f i) (drop_all i xs l))) ∙ h

module _ {X Y : Type 0} (f : X → Y) where
  -- the same where each element gives one
  pub mapped_next : (xs : List X) (i : ℕ) (x : X) (y : Y) (old new : List Y) → i < length xs → x ≡ get_or xs i x → new ≡ old ++ y ∷ [] → y ≡ f x
      → old ≡ map f (take i xs) → new ≡ map f (take (i + 1) xs)
  mapped_next xs i x y old new l at e is h =
      e ∙ ap (λ ys. ys ++ y ∷ []) h ∙ ap (λ z. map f (take i xs) ++ z ∷ []) (is ∙ ap f at)
      ∙ sym (ap (map f) (take_more xs i x l) ∙ map-append f (take i xs) (get_or xs i x ∷ []))

  pub mapped_all : (xs : List X) (i : ℕ) (old : List Y) → length xs ≤ i → old ≡ map f (take i xs) → old ≡ map f xs
  mapped_all xs i old l h = h ∙ ap (map f) (take_all i xs l)

module _ {Y : Type 0} (f : ℕ → Y) where
  -- the same of numbers
  pub ranged_next : (n : ℕ) (first old new : List Y) → old ≡ first ++ map f (range_with_len 0 n) → new ≡ old ++ f n ∷ [] → new ≡ first ++ map f (range_with_len 0 (n + 1))
  ranged_next n first old new h e =
      e ∙ ap (λ ys. ys ++ f n ∷ []) h ∙ append_assoc first (map f (range_with_len 0 n)) (f n ∷ [])
      ∙ ap (λ ys. first ++ ys) (sym (map-range_with_len_more f 0 n n (omega arith)))

  pub all_ranged : (P : Y → Type 0) (a n : ℕ) → ((k : ℕ) → k < a + n → P (f k)) → AllByRecursion P (map f (range_with_len a n))
  all_ranged P a zero h = tt
  all_ranged P a (suc n) h = (h a (omega arith), all_ranged P (a + 1) n (λ k l. h k (omega arith)))

pub map_twice : {X Y Z : Type 0} (f : Y → Z) (g : X → Y) (xs : List X) → map f (map g xs) ≡ map (λ x. f (g x)) xs
map_twice f g [] = refl
map_twice f g (x ∷ xs) = ap (λ zs. f (g x) ∷ zs) (map_twice f g xs)

pub all_both : {X : Type 0} (P : X → Type 0) (xs ys : List X) → AllByRecursion P xs → AllByRecursion P ys → AllByRecursion P (xs ++ ys)
all_both P [] ys a b = b
all_both P (x ∷ xs) ys a b = (a.0, all_both P xs ys a.1 b)

-- a list by its places
pub by_places : {X : Type 0} (xs : List X) (f : ℕ → X) → ((k : ℕ) (d : X) → k < length xs → f k ≡ get_or xs k d) → map f (range_with_len 0 (length xs)) ≡ xs
by_places xs f h = same_lists (map f (range_with_len 0 (length xs))) xs (length-map-range_with_len f 0 (length xs)) (λ k d l.
    (let m : k < length xs = (let e = length-map-range_with_len f 0 (length xs) in omega arith) in
    get_or-map-range_with_len f 0 (length xs) k k d m (omega arith) ∙ h k d m))

-- two functions that agree on a list
pub same_map : {X Y : Type 0} (f g : X → Y) (xs : List X) → All (λ x. f x ≡ g x) xs → map f xs ≡ map g xs
same_map f g [] h = refl
same_map f g (x ∷ xs) h = (let first = h 0 x (omega arith) in let rest = same_map f g xs (λ k d l. h (suc k) d (omega arith)) in λ i. first i ∷ rest i)

-- what holds of the elements of a list holds of those that are taken by their places
pub all_picked : {X : Type 0} (P : X → Type 0) (xs : List X) (none : X) (ks : List ℕ) → All P xs → All (λ k. k < length xs) ks → All P (map (λ k. get_or xs k none) ks)
all_picked P xs none [] a b = λ k d l. absurd (omega arith)
all_picked {X} P xs none (j ∷ ks) a b = at (all_picked P xs none ks a (λ q e m. b (suc q) e (omega arith)))
  where
    at : All P (map (λ k. get_or xs k none) ks) → (k : ℕ) (d : X) → k < length (map (λ k. get_or xs k none) (j ∷ ks)) → P (get_or (map (λ k. get_or xs k none) (j ∷ ks)) k d)
    at r zero d l = a j none (b 0 0 (omega arith))
    at r (suc k) d l = r k d (omega arith)

module _ {X Y : Type 0} (f : X → List Y) where
  -- what each element gives, where its place isn't asked
  pub flat_next : (xs : List X) (i : ℕ) (x : X) (old new all : List Y) → i < length xs → x ≡ get_or xs i x → new ≡ old ++ f x
      → old ++ flat_map f (drop i xs) ≡ all → new ++ flat_map f (drop (i + 1) xs) ≡ all
  flat_next xs i x old new all l at e h =
      ap (λ ys. ys ++ flat_map f (drop (i + 1) xs)) e
      ∙ append_assoc old (f x) (flat_map f (drop (i + 1) xs))
      ∙ ap (λ ys. old ++ ys) (sym (ap (flat_map f) (drop_more xs i x l) ∙ ap (λ y. f y ++ flat_map f (drop (i + 1) xs)) (sym at)))
      ∙ h

  pub flat_all : (xs : List X) (i : ℕ) (old all : List Y) → length xs ≤ i → old ++ flat_map f (drop i xs) ≡ all → old ≡ all
  flat_all xs i old all l h = sym (append-nil old) ∙ ap (λ ys. old ++ ys) (sym (ap (flat_map f) (drop_all i xs l))) ∙ h

module _ {X Y : Type 0} (f : X → Y) where
  -- one for each element, after others
  pub more_next : (xs : List X) (i : ℕ) (x : X) (y : Y) (old new all : List Y) → i < length xs → x ≡ get_or xs i x → new ≡ old ++ y ∷ [] → y ≡ f x
      → old ++ map f (drop i xs) ≡ all → new ++ map f (drop (i + 1) xs) ≡ all
  more_next xs i x y old new all l at e is h =
      ap (λ ys. ys ++ map f (drop (i + 1) xs)) e
      ∙ append_assoc old (y ∷ []) (map f (drop (i + 1) xs))
      ∙ ap (λ z. old ++ z ∷ map f (drop (i + 1) xs)) (is ∙ ap f at)
      ∙ ap (λ ys. old ++ ys) (sym (ap (map f) (drop_more xs i x l)))
      ∙ h

  pub more_all : (xs : List X) (i : ℕ) (old all : List Y) → length xs ≤ i → old ++ map f (drop i xs) ≡ all → old ≡ all
  more_all xs i old all l h = sym (append-nil old) ∙ ap (λ ys. old ++ ys) (sym (ap (map f) (drop_all i xs l))) ∙ h
