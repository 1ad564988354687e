-- Items that are written one after the other, with the numbers of their names.
use Rattle.std.proofs.Common.{◌≡◌, ℕ, zero, suc, ◌+◌, ◌<◌, ◌≤◌, List, [], ◌∷◌, ◌++◌, length, get_or, take, drop, refl, sym, ap, ◌∙◌, append_assoc, arith}
use Rattle.std.specs.List.{flat_map, AllZip}
use Rattle.std.proofs.lemmas.List.{append-nil, take_more, take_all, drop_more, drop_all}
use Rattle.std.proofs.lemmas.List.Concat.{flat_map-cons}
use Rattle.std.proofs.lemmas.Grind.{flat_map-append}
use Rattle.fcg_grammar.specs.Table.{place}
use Rattle.fcg_grammar.proofs.Among.{map_append}
use Rattle.fcg_views.specs.declared.view.Field.{Field}
use Rattle.fcg_views.specs.declared.view.View.{View}
use Rattle.fcg_views.specs.NamesIn.{names_of_field, names_in, names_by, TextNumbers, HasNames}
use Rattle.fcg_partial.specs.Internal.Written.{numbers_of}

-- the numbers of two lists of names
pub split : (table xs ys : List (List ℕ)) (more numbers : List ℕ) → numbers ≡ numbers_of table (xs ++ ys) ++ more → numbers ≡ numbers_of table xs ++ (numbers_of table ys ++ more)
split table xs ys more numbers e = e ∙ ap (λ (l : List ℕ). l ++ more) (map_append (place table) xs ys) ∙ append_assoc (numbers_of table xs) (numbers_of table ys) more

-- lists of one member each
pub singles : {X : Type 0} (xs : List X) → flat_map (λ x. x ∷ []) xs ≡ xs
singles [] = refl
singles (x ∷ xs) = flat_map-cons (λ y. y ∷ []) x xs ∙ ap (λ l. x ∷ l) (singles xs)

push : {X Y : Type 0} (f : X → List Y) (xs : List X) (x : X) → flat_map f (xs ++ x ∷ []) ≡ flat_map f xs ++ f x
push f xs x = flat_map-append f xs (x ∷ []) ∙ ap (λ l. flat_map f xs ++ l) (flat_map-cons f x [] ∙ append-nil (f x))

-- the first of the items are written, and the numbers of their names taken
abbrev pub IsSoFar : {X Y : Type 0} → (X → List (List ℕ)) → (List (List ℕ) → X → List Y) → List X → ℕ → List Y → List Y → List ℕ → List ℕ → Type 0
IsSoFar F W xs i old now left left_now = (names : List (List ℕ)) (more : List ℕ) → left ≡ numbers_of names (flat_map F xs) ++ more → (now ≡ old ++ flat_map (W names) (take i xs)) × (left_now ≡ numbers_of names (flat_map F (drop i xs)) ++ more)

module _ {X Y : Type 0} (F : X → List (List ℕ)) (W : List (List ℕ) → X → List Y) (xs : List X) where
  pub none_yet : (old : List Y) (left : List ℕ) → IsSoFar F W xs 0 old old left left
  none_yet old left names more e = (sym (append-nil old), e)

  module _ (i : ℕ) (old now : List Y) (left left_now : List ℕ) (so_far : IsSoFar F W xs i old now left left_now) where
    module _ (x : X) (lt : i < length xs) (is : x ≡ get_or xs i x) (new : List Y) (left_new : List ℕ) where
      first : drop i xs ≡ x ∷ drop (i + 1) xs
      first = drop_more xs i x lt ∙ ap (λ (y : X). y ∷ drop (i + 1) xs) (sym is)

      upto : (f : X → List Y) → flat_map f (take i xs) ++ f x ≡ flat_map f (take (i + 1) xs)
      upto f = sym (push f (take i xs) x) ∙ ap (flat_map f) (ap (λ (y : X). take i xs ++ y ∷ []) is ∙ sym (take_more xs i x lt))

      pub one_more : ((names : List (List ℕ)) (more : List ℕ) → left_now ≡ numbers_of names (F x) ++ more → (new ≡ now ++ W names x) × (left_new ≡ more)) → IsSoFar F W xs (i + 1) old new left left_new
      one_more here names more e =
          let s = so_far names more e in
          let rest = flat_map F (drop (i + 1) xs) in
          let next = s.1 ∙ ap (λ (l : List X). numbers_of names (flat_map F l) ++ more) first ∙ ap (λ (l : List (List ℕ)). numbers_of names l ++ more) (flat_map-cons F x (drop (i + 1) xs)) in
          let h = here names (numbers_of names rest ++ more) (split names (F x) rest more left_now next) in
          (h.0 ∙ ap (λ (l : List Y). l ++ W names x) s.0 ∙ append_assoc old (flat_map (W names) (take i xs)) (W names x) ∙ ap (λ (l : List Y). old ++ l) (upto (W names)), h.1)

    pub all_done : length xs ≤ i → (names : List (List ℕ)) (more : List ℕ) → left ≡ numbers_of names (flat_map F xs) ++ more → (now ≡ old ++ flat_map (W names) xs) × (left_now ≡ more)
    all_done le names more e =
        let s = so_far names more e in
        (s.0 ∙ ap (λ (l : List X). old ++ flat_map (W names) l) (take_all i xs le), s.1 ∙ ap (λ (l : List X). numbers_of names (flat_map F l) ++ more) (drop_all i xs le))

-- numbers that are passed over
front : (table xs : List (List ℕ)) (more : List ℕ) → drop (length xs) (numbers_of table xs ++ more) ≡ more
front table [] more = refl
front table (x ∷ xs) more = front table xs more

pub passed : (table xs ys : List (List ℕ)) (more old new : List ℕ) (n : ℕ) → n ≡ length xs → old ≡ numbers_of table (xs ++ ys) ++ more → new ≡ drop n old → new ≡ numbers_of table ys ++ more
passed table xs ys more old new n long e is =
    is ∙ ap (λ (k : ℕ). drop k old) long ∙ ap (drop (length xs)) (split table xs ys more old e) ∙ front table xs (numbers_of table ys ++ more)

pub passed_twice : (table xs ys : List (List ℕ)) (more old between new : List ℕ) (n : ℕ) → n + n ≡ length xs → old ≡ numbers_of table (xs ++ ys) ++ more → between ≡ drop n old → new ≡ drop n between → new ≡ numbers_of table ys ++ more
passed_twice table xs ys more old between new n long e once twice =
    passed table xs ys more old new (n + n) long e (twice ∙ ap (drop n) once ∙ again n old)
  where
    nothing : (k : ℕ) → drop {A = ℕ} k [] ≡ []
    nothing zero = refl
    nothing (suc k) = refl

    again : (k : ℕ) (l : List ℕ) → drop n (drop k l) ≡ drop (k + n) l
    again zero l = ap (λ (m : ℕ). drop m l) (let same : n ≡ 0 + n = omega arith in same)
    again (suc k) [] = nothing n ∙ sym (nothing (suc k + n))
    again (suc k) (x ∷ l) = again k l ∙ ap (λ (m : ℕ). drop m (x ∷ l)) (let same : suc (k + n) ≡ suc k + n = omega arith in same)

-- how many names fields have
pub field_names_many : (fs : List Field) → length fs + length fs ≡ length (flat_map names_of_field fs)
field_names_many [] = refl
field_names_many (f ∷ fs) =
    let n = field_names_many fs in
    let long = ap (λ (l : List (List ℕ)). length l) (flat_map-cons names_of_field f fs) in
    omega arith

-- the names of views whose lists are given are those of the lists
pub listed_names : (vs : List View) (lists : List TextNumbers) → AllZip HasNames vs lists → flat_map names_by lists ≡ flat_map names_in vs
listed_names [] [] all = refl
listed_names [] (l ∷ lists) all = absurd all
listed_names (v ∷ vs) [] all = absurd all
listed_names (v ∷ vs) (l ∷ lists) all =
    flat_map-cons names_by l lists ∙ ap (λ (n : List (List ℕ)). n ++ flat_map names_by lists) (sym all.0) ∙ ap (λ (n : List (List ℕ)). names_in v ++ n) (listed_names vs lists all.1) ∙ sym (flat_map-cons names_in v vs)
