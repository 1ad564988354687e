-- Winners, known types and what is above them.
use Rattle.std.proofs.Common.{◌≡◌, ℕ, List, [], ◌∷◌, ◌++◌, refl, sym, ◌∙◌}
use Rattle.std.specs.Prelude.{Bool, true, false, not, cond, find, Some, Contains, filter}
use Rattle.std.specs.List.{list_any, IsDistinct, AllByRecursion}
use Rattle.std.specs.Cmp.Lexicographic.{bytes_decides, nat_list_eq_equiv}
use Rattle.std.proofs.lemmas.Bool.{or_left, or_right, or_from, false_from_ne_true}
use Rattle.std.proofs.lemmas.List.Folds.{list_any-append}
use Rattle.fcg_analysis.specs.Walks.{Walk}
use Rattle.fcg_analysis.specs.Declarations.{Placed, is_named, is_type}
use Rattle.fcg_analysis.specs.Types.{winners, winners_after, links, above, is_circular, known}
use Rattle.fcg_analysis.proofs.General.Members.{Contains-from_IsIn, IsIn-from_Contains, any_in, in_any, in_filter}
use Rattle.fcg_analysis.proofs.General.Sorted.{all_from_in, in_all}
use Rattle.fcg_analysis.proofs.General.Walking.{led_from_walk, walk_from_led, walk_in_more, walk_joined}

-- ---- names

pub is_type_self : (t : Placed) → is_type t t ≡ true
is_type_self t = (bytes_decides t.view.name t.view.name).1 refl

pub is_type_back : (t u : Placed) → is_type t u ≡ is_type u t
is_type_back t u = nat_list_eq_equiv.symm t.view.name u.view.name

pub name_of_type : (t u : Placed) → is_type t u ≡ true → t.view.name ≡ u.view.name
name_of_type t u h = (bytes_decides t.view.name u.view.name).0 h

-- ---- winners

-- each winner has a name of its own
winners_new : (earlier later : List Placed) (t : Placed) → list_any (is_type t) earlier ≡ true → AllByRecursion (λ u. is_type t u ≡ false) (winners_after earlier later)
winners_new earlier [] t h = tt
winners_new earlier (u ∷ later) t h = at (list_any (is_type u) earlier) refl (winners_new (earlier ++ u ∷ []) later t (list_any-append (is_type t) earlier (u ∷ []) ∙ or_left _ (list_any (is_type t) (u ∷ [])) h))
  where
    other : list_any (is_type u) earlier ≡ false → is_type t u ≡ true → ⊥
    other n e =
        let r = in_any (is_type t) earlier h in
        let names : u.view.name ≡ r.0.view.name = sym (name_of_type t u e) ∙ name_of_type t r.0 r.2 in
        let again : list_any (is_type u) earlier ≡ true = any_in (is_type u) earlier r.0 r.1 ((bytes_decides u.view.name r.0.view.name).1 names) in
        cc

    at : (b : Bool) → list_any (is_type u) earlier ≡ b → AllByRecursion (λ v. is_type t v ≡ false) (winners_after (earlier ++ u ∷ []) later)
        → AllByRecursion (λ v. is_type t v ≡ false) (cond b (winners_after (earlier ++ u ∷ []) later) (u ∷ winners_after (earlier ++ u ∷ []) later))
    at true e k = k
    at false e k = (false_from_ne_true _ (other e), k)

winners_distinct_after : (earlier later : List Placed) → IsDistinct is_type (winners_after earlier later)
unfolding IsDistinct
winners_distinct_after earlier [] = tt
winners_distinct_after earlier (u ∷ later) = at (list_any (is_type u) earlier) (winners_distinct_after (earlier ++ u ∷ []) later)
  where
    at : (b : Bool) → IsDistinct is_type (winners_after (earlier ++ u ∷ []) later)
        → IsDistinct is_type (cond b (winners_after (earlier ++ u ∷ []) later) (u ∷ winners_after (earlier ++ u ∷ []) later))
    at true k = k
    at false k = (winners_new (earlier ++ u ∷ []) later u (list_any-append (is_type u) earlier (u ∷ []) ∙ or_right (list_any (is_type u) earlier) _ (or_left (is_type u u) false (is_type_self u))), k)

pub winners_distinct : (views : List Placed) → IsDistinct is_type (winners views)
unfolding winners
winners_distinct views = winners_distinct_after [] views

-- the winner of a name is the first view of the name
winner_of_after : (earlier later : List Placed) (n : List ℕ) → list_any (is_named n) earlier ≡ false → find (is_named n) (winners_after earlier later) ≡ find (is_named n) later
winner_of_after earlier [] n h = refl
winner_of_after earlier (u ∷ later) n h = at (is_named n u) (list_any (is_type u) earlier) refl refl (winner_of_after (earlier ++ u ∷ []) later n)
  where
    more : is_named n u ≡ false → list_any (is_named n) (earlier ++ u ∷ []) ≡ false
    more e = list_any-append (is_named n) earlier (u ∷ []) ∙ or_from _ _ h (or_from (is_named n u) false e refl)

    stands : is_named n u ≡ true → list_any (is_type u) earlier ≡ true → ⊥
    stands e k =
        let r = in_any (is_type u) earlier k in
        let names : n ≡ r.0.view.name = (bytes_decides n u.view.name).0 e ∙ name_of_type u r.0 r.2 in
        let again : list_any (is_named n) earlier ≡ true = any_in (is_named n) earlier r.0 r.1 ((bytes_decides n r.0.view.name).1 names) in
        cc

    at : (b c : Bool) → is_named n u ≡ b → list_any (is_type u) earlier ≡ c
        → (list_any (is_named n) (earlier ++ u ∷ []) ≡ false → find (is_named n) (winners_after (earlier ++ u ∷ []) later) ≡ find (is_named n) later)
        → find (is_named n) (cond c (winners_after (earlier ++ u ∷ []) later) (u ∷ winners_after (earlier ++ u ∷ []) later)) ≡ cond b (Some u) (find (is_named n) later)
    at true true e k r = absurd (stands e k)
    at true false e k r = rw e refl
    at false true e k r = r (more e)
    at false false e k r = rw e (r (more e))

pub winner_of : (views : List Placed) (n : List ℕ) → find (is_named n) (winners views) ≡ find (is_named n) views
unfolding winners
winner_of views n = winner_of_after [] views n refl

-- ---- known types

pub known_acyclic : (views : List Placed) (t : Placed) → Contains (known views) t → Contains (above (known views) t) t → ⊥
unfolding known above
known_acyclic views t c a =
    let types = winners views in
    let k = in_filter (λ u. not (is_circular types u)) types t (IsIn-from_Contains _ t c) in
    let w = walk_from_led links (known views) t t a in
    let v : Walk links types t t = walk_in_more (λ z d. Contains-from_IsIn types z (in_filter (λ u. not (is_circular types u)) types z (IsIn-from_Contains _ z d)).0) w in
    let round : is_circular types t ≡ true = any_in (is_type t) (above types t) t (IsIn-from_Contains _ t (led_from_walk links types t t v)) (is_type_self t) in
    let e = k.1 in
    cc

pub above_joined : (types : List Placed) (t u v : Placed) → Contains (above types t) u → Contains (above types u) v → Contains (above types t) v
unfolding above
above_joined types t u v a b = led_from_walk links types t v (walk_joined (walk_from_led links types t u a) (walk_from_led links types u v b))

-- ---- known types have distinct names

distinct_filter : (p : Placed → Bool) (xs : List Placed) → IsDistinct is_type xs → IsDistinct is_type (filter p xs)
unfolding IsDistinct
distinct_filter p [] d = tt
distinct_filter p (x ∷ xs) d = at (p x) (distinct_filter p xs d.1)
  where
    apart : AllByRecursion (λ u. is_type x u ≡ false) (filter p xs)
    apart = all_from_in (λ u. is_type x u ≡ false) (filter p xs) (λ u h. in_all (λ v. is_type x v ≡ false) xs u d.0 (in_filter p xs u h).0)

    at : (b : Bool) → IsDistinct is_type (filter p xs) → IsDistinct is_type (cond b (x ∷ filter p xs) (filter p xs))
    at true k = (apart, k)
    at false k = k

pub known_distinct : (views : List Placed) → IsDistinct is_type (known views)
unfolding known
known_distinct views = distinct_filter (λ t. not (is_circular (winners views) t)) (winners views) (winners_distinct views)
