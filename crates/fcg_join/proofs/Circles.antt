-- Walks of links between numbers are walks of links between types.
use Rattle.std.proofs.Common.{◌≡◌, ℕ, zero, suc, ◌<◌, List, [], ◌∷◌, length, refl, sym, subst, arith}
use Rattle.std.specs.Prelude.{true}
use Rattle.std.specs.List.{IsDistinct}
use Rattle.fcg_analysis.specs.Walks.{Walk, step, onward}
use Rattle.fcg_analysis.specs.Declarations.{Placed, is_type}
use Rattle.fcg_analysis.specs.Types.{links, above, is_circular}
use Rattle.fcg_order.specs.Links.{HasLink, LinkWalk, first_link, next_link}
use Rattle.fcg_join.specs.TypeLinks.{HasTypeAt, HasLinks}
use Rattle.fcg_analysis.proofs.General.Members.{IsIn, IsIn-from_Contains, Contains-from_IsIn, any_in, in_any}
use Rattle.fcg_analysis.proofs.General.Walking.{led_from_walk, walk_from_led, walk_end}
use Rattle.fcg_analysis.proofs.WinnerLaws.{is_type_self}
use Rattle.fcg_analysis.proofs.OverrideLaws.{one_of_name}
use Rattle.fcg_join.proofs.Places.{place_of, has_in, one_place}

module _ (types : List Placed) (rows : List (List ℕ)) (h : HasLinks types rows) where
  pub numbers_by_walk : {t u : Placed} (x : ℕ) → HasTypeAt types x t → Walk links types t u → (y : ℕ) × HasTypeAt types y u × LinkWalk rows x y
  numbers_by_walk {t = t} {u = u} x a (step c l) = let p = place_of types u c in (p.0, p.1, first_link ((h.each x p.0 t u a p.1).1 l))
  numbers_by_walk {u = u} x a (onward {y = v} w c l) =
      let r = numbers_by_walk x a w in
      let p = place_of types u c in
      (p.0, p.1, next_link r.2 ((h.each r.0 p.0 v u r.1 p.1).1 l))

  -- a number that a row has is that of a type
  pub some_type : (x y : ℕ) → HasLink rows x y → (u : Placed) × HasTypeAt types y u
  some_type x y l = at types y (subst (λ n. y < n) h.long (h.within.each x y l))
    where
      at : (ts : List Placed) (k : ℕ) → k < length ts → (u : Placed) × HasTypeAt ts k u
      at [] k l = absurd (omega arith)
      at (t ∷ ts) zero l = (t, refl)
      at (t ∷ ts) (suc k) l = at ts k (omega arith)

  pub walk_by_numbers : {x y : ℕ} (t u : Placed) → HasTypeAt types x t → HasTypeAt types y u → LinkWalk rows x y → Walk links types t u
  walk_by_numbers {x = x} {y = y} t u a b (first_link l) = step (has_in types y u b) ((h.each x y t u a b).0 l)
  walk_by_numbers {x = x} {y = z} t u a b (next_link {y = y} w l) =
      let v = last w in
      onward (walk_by_numbers t v.0 a v.1 w) (has_in types z u b) ((h.each y z v.0 u v.1 b).0 l)
    where
      last : {x y : ℕ} → LinkWalk rows x y → (v : Placed) × HasTypeAt types y v
      last {x = x} {y = y} (first_link l) = some_type x y l
      last {y = z} (next_link {y = y} w l) = some_type y z l

  pub circle_by_number : IsDistinct is_type types → (x : ℕ) (t : Placed) → HasTypeAt types x t → LinkWalk rows x x → is_circular types t ≡ true
  unfolding above
  circle_by_number d x t a w = any_in (is_type t) (above types t) t (IsIn-from_Contains _ t (led_from_walk links types t t (walk_by_numbers t t a a w))) (is_type_self t)

  pub number_by_circle : IsDistinct is_type types → (x : ℕ) (t : Placed) → HasTypeAt types x t → is_circular types t ≡ true → LinkWalk rows x x
  unfolding above
  number_by_circle d x t a e =
      let r = in_any (is_type t) (above types t) e in
      let w : Walk links types t r.0 = walk_from_led links types t r.0 (Contains-from_IsIn _ r.0 r.1) in
      let i : IsIn r.0 types = IsIn-from_Contains types r.0 (walk_end w) in
      let j : IsIn t types = IsIn-from_Contains types t (has_in types x t a) in
      let same : t ≡ r.0 = one_of_name types t r.0 d j i r.2 in
      let way = numbers_by_walk x a (subst (λ u. Walk links types t u) (sym same) w) in
      let back : way.0 ≡ x = one_place types way.0 x t d way.1 a in
      subst (λ y. LinkWalk rows x y) back way.2
