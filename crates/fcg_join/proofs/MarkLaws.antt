-- A table by numbers that is filled along the order is the table of the definitions.
use Rattle.std.proofs.Common.{◌≡◌, ℕ, zero, suc, ◌<◌, List, [], ◌∷◌, length, get_or, refl, sym, ap, subst, ◌∙◌, inl, inr, arith}
use Rattle.std.specs.Prelude.{Bool, true, false, cond, ◌&&◌, ◌||◌, Contains}
use Rattle.std.specs.List.{list_any, IsDistinct}
use Rattle.std.specs.Cmp.{both_ways}
use Rattle.std.proofs.lemmas.Bool.{or_cases, or_left, or_right, and_from}
use Rattle.std.proofs.lemmas.Option.{slice_get_within}
use Rattle.fcg_analysis.specs.Declarations.{Placed, is_type}
use Rattle.fcg_analysis.specs.Types.{links, above}
use Rattle.fcg_analysis.specs.Laws.Statements.{IsAcyclic}
use Rattle.fcg_order.specs.Links.{HasLink, row, IsCircular}
use Rattle.fcg_order.specs.Fill.{any_marked, IsFilled}
use Rattle.fcg_join.specs.TypeLinks.{HasTypeAt, HasLinks}
use Rattle.fcg_join.specs.TypeTables.{mark_of, IsUpward}
use Rattle.fcg_analysis.proofs.General.Members.{IsIn-from_Contains, Contains-from_IsIn, any_in, in_any, and_first, and_second}
use Rattle.fcg_analysis.proofs.General.Sorted.{in_all}
use Rattle.fcg_analysis.proofs.WinnerLaws.{is_type_self}
use Rattle.fcg_join.proofs.Places.{place_of, has_in}
use Rattle.fcg_join.proofs.Circles.{walk_by_numbers}
use Rattle.fcg_join.proofs.Upward.{upward}

-- the mark of a type is that of its place
pub mark_at : (types : List Placed) (ms : List Bool) (x : ℕ) (t : Placed) → IsDistinct is_type types → length ms ≡ length types → HasTypeAt types x t → mark_of types ms t ≡ get_or ms x false
unfolding IsDistinct
mark_at [] ms x t d l h = absurd (cc)
mark_at (y ∷ ys) [] x t d l h = absurd (omega arith)
mark_at (y ∷ ys) (m ∷ ms) zero t d l h = (let same : y ≡ t = cc in ap (λ b. cond b m (mark_of ys ms t)) (ap (is_type y) (sym same) ∙ is_type_self y))
mark_at (y ∷ ys) (m ∷ ms) (suc x) t d l h =
    ap (λ b. cond b m (mark_of ys ms t)) (in_all (λ u. is_type y u ≡ false) ys t d.0 (IsIn-from_Contains ys t (has_in ys x t h)))
    ∙ mark_at ys ms x t d.1 (omega arith) h

in_marked : (ms : List Bool) (ns : List ℕ) → any_marked ms ns ≡ true → (y : ℕ) × Contains ns y × (get_or ms y false ≡ true)
in_marked ms [] h = absurd (cc)
in_marked ms (n ∷ ns) h = elim (or_cases (get_or ms n false) (any_marked ms ns) h) [
  | inl e ↦ (n, (0, omega arith, refl), e)
  | inr e ↦ (let r = in_marked ms ns e in (r.0, (suc r.1.0, (let l = r.1.1 in omega arith), r.1.2), r.2))
]

marked_in : (ms : List Bool) (ns : List ℕ) (y k : ℕ) → k < length ns → get_or ns k y ≡ y → get_or ms y false ≡ true → any_marked ms ns ≡ true
marked_in ms [] y k l e t = absurd (omega arith)
marked_in ms (n ∷ ns) y zero l e t = or_left (get_or ms n false) (any_marked ms ns) (ap (λ z. get_or ms z false) e ∙ t)
marked_in ms (n ∷ ns) y (suc k) l e t = or_right (get_or ms n false) (any_marked ms ns) (marked_in ms ns y k (omega arith) e t)

module _ (types : List Placed) (rows : List (List ℕ)) (h : HasLinks types rows) (d : IsDistinct is_type types) where
  some_at : (y : ℕ) → y < length types → (u : Placed) × HasTypeAt types y u
  some_at y l = at types y l
    where
      at : (ts : List Placed) (k : ℕ) → k < length ts → (u : Placed) × HasTypeAt ts k u
      at [] k l = absurd (omega arith)
      at (t ∷ ts) zero l = (t, refl)
      at (t ∷ ts) (suc k) l = at ts k (omega arith)

  -- a mark among those to which a number links is one of a type to which its type links
  linked : (new : List Bool) → length new ≡ length types → (x : ℕ) (t : Placed) → HasTypeAt types x t
      → any_marked new (row rows x) ≡ list_any (λ u. links t u && mark_of types new u) types
  linked new m x t a = both_ways (any_marked new (row rows x)) (list_any (λ u. links t u && mark_of types new u) types)
      (λ e. (let r = in_marked new (row rows x) e in
      let u = some_at r.0 (subst (λ n. r.0 < n) h.long (h.within.each x r.0 r.1)) in
      any_in (λ u. links t u && mark_of types new u) types u.0 (IsIn-from_Contains types u.0 (has_in types r.0 u.0 u.1))
      (and_from (links t u.0) (mark_of types new u.0) ((h.each x r.0 t u.0 a u.1).0 r.1) (mark_at types new r.0 u.0 d m u.1 ∙ r.2))))
      (λ e. (let r = in_any (λ u. links t u && mark_of types new u) types e in
      let p = place_of types r.0 (Contains-from_IsIn types r.0 r.1) in
      let c : HasLink rows x p.0 = (h.each x p.0 t r.0 a p.1).1 (and_first (links t r.0) (mark_of types new r.0) r.2) in
      marked_in new (row rows x) p.0 c.0 c.1 c.2 (sym (mark_at types new p.0 r.0 d m p.1) ∙ and_second (links t r.0) (mark_of types new r.0) r.2)))

  pub no_circle : IsAcyclic types → (x : ℕ) (t : Placed) → HasTypeAt types x t → IsCircular rows x → ⊥
  no_circle acyclic x t a w = acyclic t (has_in types x t a) (walk_by_numbers types rows h t t a a w)

  pub filled_upward : (says : Placed → Bool) (old new : List Bool) → IsAcyclic types
      → ((x : ℕ) (t : Placed) → HasTypeAt types x t → get_or old x false ≡ says t) → IsFilled rows old new → IsUpward types says (mark_of types new)
  filled_upward says old new acyclic starts f t c =
      let a = place_of types t c in
      let l : a.0 < length rows = subst (λ n. a.0 < n) (sym h.long) (slice_get_within types a.0 t a.1) in
      let m : length new ≡ length types = f.long ∙ h.long in
      mark_at types new a.0 t d m a.1 ∙ f.each a.0 l (no_circle acyclic a.0 t a.1)
      ∙ ap (λ b. b || any_marked new (row rows a.0)) (starts a.0 t a.1) ∙ ap (λ b. says t || b) (linked new m a.0 t a.1)

  -- the mark of a number says what its type or one above it says
  pub filled_above : (says : Placed → Bool) (old new : List Bool) → IsAcyclic types
      → ((x : ℕ) (t : Placed) → HasTypeAt types x t → get_or old x false ≡ says t) → IsFilled rows old new
      → (x : ℕ) (t : Placed) → HasTypeAt types x t → get_or new x false ≡ (says t || list_any says (above types t))
  filled_above says old new acyclic starts f x t a =
      sym (mark_at types new x t d (f.long ∙ h.long) a)
      ∙ upward types acyclic says (mark_of types new) (filled_upward says old new acyclic starts f) t (has_in types x t a)
