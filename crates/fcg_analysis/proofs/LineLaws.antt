-- A line of superclasses goes on until there is none, and never stops for want of steps.
use Rattle.std.proofs.Common.{◌≡◌, ℕ, zero, suc, ◌<◌, List, ◌∷◌, length, refl, sym, ap, subst, ◌∙◌, inl, inr, arith}
use Rattle.std.specs.Prelude.{Bool, true, false, ◌||◌, filter, Option, Some, None, Contains}
use Rattle.std.specs.List.{list_any}
use Rattle.std.proofs.lemmas.Bool.{or_left, false_from_ne_true}
use Rattle.fcg_analysis.specs.Walks.{Walk, step}
use Rattle.fcg_analysis.specs.Declarations.{Placed}
use Rattle.fcg_analysis.specs.Types.{links, extends, implements, above, superclass, superclass_line, line}
use Rattle.fcg_analysis.specs.Laws.Statements.{IsAcyclic, line_above}
use Rattle.fcg_analysis.proofs.General.Members.{Contains-from_IsIn, IsIn, IsIn-from_Contains, filter_in, find_in, in_filter, length-filter_less, same_or_more_in}
use Rattle.fcg_analysis.proofs.General.Walking.{closed, led_from_walk, walk_from_led, walk_joined}

module _ (types : List Placed) (acyclic : IsAcyclic types) where
  -- how many types are above t
  pub height : Placed → ℕ
  height t = length (above types t)

  is_up : Placed → Placed → Bool
  is_up t u = links t u || list_any (λ v. links v u) (above types t)

  as_filter : (t : Placed) → filter (is_up t) types ≡ above types t
  unfolding is_up above
  as_filter t = closed links types t

  pub height_less : (s t : Placed) → Walk links types t s → Contains types s → height s < height t
  unfolding height above
  height_less s t w c =
      elim (same_or_more_in (is_up t) (is_up s) types more) [
        | inl e ↦ absurd (acyclic s c (walk_from_led links types s s (Contains-from_IsIn _ s (subst (IsIn s) (sym (as_filter t) ∙ e ∙ as_filter s) there))))
        | inr l ↦ (let a : length (filter (is_up s) types) ≡ length (above types s) = ap length (as_filter s) in
            let b : length (filter (is_up t) types) ≡ length (above types t) = ap length (as_filter t) in omega arith)
      ]
    where
      there : IsIn s (above types t)
      there = IsIn-from_Contains _ s (led_from_walk links types t s w)

      more : (u : Placed) → IsIn u types → is_up s u ≡ true → is_up t u ≡ true
      more u h k =
          let v : IsIn u (above types s) = subst (IsIn u) (as_filter s) (filter_in (is_up s) types u h k) in
          let x : Walk links types t u = walk_joined w (walk_from_led links types s u (Contains-from_IsIn _ u v)) in
          (in_filter (is_up t) types u (subst (IsIn u) (sym (as_filter t)) (IsIn-from_Contains _ u (led_from_walk links types t u x)))).1

  pub height_small : (t : Placed) → Contains types t → height t < length types
  unfolding height above
  height_small t c =
      let none : is_up t t ≡ false = false_from_ne_true _ (λ k. acyclic t c (walk_from_led links types t t (Contains-from_IsIn _ t (subst (IsIn t) (as_filter t) (filter_in (is_up t) types t (IsIn-from_Contains _ t c) k))))) in
      let less : length (filter (is_up t) types) < length types = length-filter_less (is_up t) types t (IsIn-from_Contains _ t c) none in
      let a : length (filter (is_up t) types) ≡ length (above types t) = ap length (as_filter t) in omega arith

  superclass_there : (t s : Placed) → superclass types t ≡ Some s → Contains types s × Walk links types t s
  superclass_there t s e =
      let f = find_in (extends t) types s e in
      let c = Contains-from_IsIn types s f.0 in
      (c, step c (or_left (extends t s) (implements t s) f.1))

  line_stable : (n m : ℕ) (t : Placed) → height t < n → height t < m → superclass_line n types (Some t) ≡ superclass_line m types (Some t)
  line_stable zero m t h k = absurd (omega arith)
  line_stable (suc n) zero t h k = absurd (omega arith)
  line_stable (suc n) (suc m) t h k = ap (λ xs. t ∷ xs) (at (superclass types t) refl (line_stable n m))
    where
      at : (o : Option Placed) → superclass types t ≡ o
          → ((s : Placed) → height s < n → height s < m → superclass_line n types (Some s) ≡ superclass_line m types (Some s))
          → superclass_line n types o ≡ superclass_line m types o
      at None e r = refl
      at (Some s) e r =
          let p = superclass_there t s e in
          let l : height s < height t = height_less s t p.1 p.0 in
          r s (omega arith) (omega arith)

  goes_on : (n : ℕ) (t : Placed) → height t < n → superclass_line n types (Some t) ≡ t ∷ superclass_line n types (superclass types t)
  goes_on zero t h = absurd (omega arith)
  goes_on (suc n) t h = ap (λ xs. t ∷ xs) (at (superclass types t) refl)
    where
      at : (o : Option Placed) → superclass types t ≡ o → superclass_line n types o ≡ superclass_line (suc n) types o
      at None e = refl
      at (Some s) e =
          let p = superclass_there t s e in
          let l : height s < height t = height_less s t p.1 p.0 in
          line_stable n (suc n) s (omega arith) (omega arith)

  pub line_goes_on : (t : Placed) → Contains types t → line types t ≡ t ∷ line_above types (superclass types t)
  unfolding line
  line_goes_on t c = goes_on (length types) t (height_small t c) ∙ ap (λ xs. t ∷ xs) (at (superclass types t))
    where
      at : (o : Option Placed) → superclass_line (length types) types o ≡ line_above types o
      at None = refl
      at (Some s) = refl
