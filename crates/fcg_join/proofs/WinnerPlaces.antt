-- The places of winners among the views.
use Rattle.std.proofs.Common.{◌≡◌, ℕ, zero, suc, ◌+◌, ◌<◌, List, [], ◌∷◌, ◌++◌, length, eqb, ltb, refl, sym, ap, ◌∙◌, inr, arith}
use Rattle.std.specs.Prelude.{Bool, true, false, cond, not, ◌||◌, Option, Some, None, map, option_map, position, slice_get, Contains}
use Rattle.std.specs.List.{list_any, position_or_len, range_with_len}
use Rattle.std.proofs.lemmas.Bool.{lt-ltb, or_parts, not-true}
use Rattle.std.proofs.lemmas.List.Folds.{list_any-append}
use Rattle.std.proofs.lemmas.Option.{slice_get_within, slice_get-map}
use Rattle.fcg_grammar.proofs.Among.{among_from_contains}
use Rattle.fcg_analysis.specs.Declarations.{Placed, is_type}
use Rattle.fcg_join.specs.Places.{ArePlaces}
use Rattle.fcg_join.specs.Winners.{name_number, first_marks, first_marks_after, marked}
use Rattle.fcg_analysis.proofs.General.Members.{IsIn-from_Contains, Contains-from_IsIn}
use Rattle.fcg_analysis.proofs.General.Places.{member_at}
use Rattle.fcg_analysis.proofs.WinnerLaws.{is_type_self}
use Rattle.fcg_join.proofs.Firsts.{same_type}

-- ---- the elements with a mark, by their places

marked_map : {X Y : Type 0} (f : X → Y) (ms : List Bool) (xs : List X) → map f (marked ms xs) ≡ marked ms (map f xs)
marked_map f [] xs = refl
marked_map f (m ∷ ms) [] = refl
marked_map {X} {Y} f (m ∷ ms) (x ∷ xs) = at m (marked_map f ms xs)
  where
    at : (b : Bool) → map f (marked ms xs) ≡ marked ms (map f xs) → map f (cond b (x ∷ marked ms xs) (marked ms xs)) ≡ cond b (f x ∷ marked ms (map f xs)) (marked ms (map f xs))
    at true r = ap (λ ys. f x ∷ ys) r
    at false r = r

places_from : {X : Type 0} (get : ℕ → Option X) (a : ℕ) (xs : List X) → ((k : ℕ) → get (a + k) ≡ slice_get xs k) → map get (range_with_len a (length xs)) ≡ map Some xs
places_from get a [] h = refl
places_from get a (x ∷ xs) h =
    let here : a ≡ a + 0 = omega arith in
    let first : get a ≡ Some x = ap get here ∙ h 0 in
    let rest = places_from get (a + 1) xs (λ k. (let e : a + 1 + k ≡ a + suc k = omega arith in ap get e ∙ h (suc k))) in
    λ i. first i ∷ rest i

pub all_places : (views : List Placed) → ArePlaces views (range_with_len 0 (length views)) views
all_places views = places_from (slice_get views) 0 views (λ k. (let e : 0 + k ≡ k = omega arith in ap (slice_get views) e))

pub marked_places : (views types : List Placed) (places : List ℕ) (marks : List Bool) → ArePlaces views places types → ArePlaces views (marked marks places) (marked marks types)
marked_places views types places marks h = marked_map (slice_get views) marks places ∙ ap (marked marks) h ∙ sym (marked_map Some marks types)

-- ---- a place with a mark is the first of its name

-- no number before is the same
none_before : (earlier later : List ℕ) (k n : ℕ) → slice_get (first_marks_after earlier later) k ≡ Some true → slice_get later k ≡ Some n → list_any (λ m. eqb m n) earlier ≡ false
none_before earlier [] k n h e = absurd (cc)
none_before earlier (m ∷ later) zero n h e =
    let same : m ≡ n = cc in
    let on : not (list_any (λ j. eqb j m) earlier) ≡ true = cc in
    ap (λ v. list_any (λ j. eqb j v) earlier) (sym same) ∙ not-true (list_any (λ j. eqb j m) earlier) on
none_before earlier (m ∷ later) (suc k) n h e =
    (or_parts (list_any (λ j. eqb j n) earlier) (eqb m n || false) (sym (list_any-append (λ j. eqb j n) earlier (m ∷ [])) ∙ none_before (earlier ++ m ∷ []) later k n h e)).0

module _ (names : List (List ℕ)) where
  first_from : (earlier : List ℕ) (views : List Placed) (k : ℕ) (t : Placed) → ((u : Placed) → Contains views u → Contains names u.view.name)
      → slice_get views k ≡ Some t → slice_get (first_marks_after earlier (map (name_number names) views)) k ≡ Some true → position_or_len (is_type t) views ≡ k
  first_from earlier [] k t h e f = absurd (cc)
  first_from earlier (v ∷ views) zero t h e f =
      let same : v ≡ t = cc in
      let on : is_type t v ≡ true = ap (is_type t) same ∙ is_type_self t in
      ap (λ b. cond (not b) (1 + position_or_len (is_type t) views) 0) on
  first_from earlier (v ∷ views) (suc k) t h e f =
      let number : slice_get (map (name_number names) views) k ≡ Some (name_number names t) = slice_get-map (name_number names) views k ∙ ap (option_map (name_number names)) e in
      let none = none_before (earlier ++ name_number names v ∷ []) (map (name_number names) views) k (name_number names t) f number in
      let last = (or_parts (list_any (λ j. eqb j (name_number names t)) earlier) (eqb (name_number names v) (name_number names t) || false) (sym (list_any-append (λ j. eqb j (name_number names t)) earlier (name_number names v ∷ [])) ∙ none)).1 in
      let other = (or_parts (eqb (name_number names v) (name_number names t)) false last).0 in
      let there : Contains (v ∷ views) t = member_at (v ∷ views) (suc k) t e in
      let first : Contains (v ∷ views) v = member_at (v ∷ views) zero v refl in
      let off : is_type t v ≡ false = same_type names t v (among_from_contains t.view.name names (h t there)) (among_from_contains v.view.name names (h v first)) ∙ other in
      let rest : position_or_len (is_type t) views ≡ k = first_from (earlier ++ name_number names v ∷ []) views k t (λ u c. h u (later u c)) e f in
      ap (λ b. cond (not b) (1 + position_or_len (is_type t) views) 0) off ∙ (let e : 1 + position_or_len (is_type t) views ≡ suc k = omega (arith, rest) in e)
    where
      later : (u : Placed) → Contains views u → Contains (v ∷ views) u
      later u c = Contains-from_IsIn (v ∷ views) u (inr (IsIn-from_Contains views u c))

  pub first_of_name : (views : List Placed) → ((u : Placed) → Contains views u → Contains names u.view.name) → (k : ℕ) (t : Placed)
      → slice_get views k ≡ Some t → slice_get (first_marks (map (name_number names) views)) k ≡ Some true → position (is_type t) views ≡ Some k
  first_of_name views h k t e f =
      let p = first_from [] views k t h e f in
      let l : k < length views = slice_get_within views k t e in
      ap (λ j. cond (ltb j (length views)) (Some j) None) p ∙ ap (λ b. cond b (Some k) None) (lt-ltb k (length views) l)
