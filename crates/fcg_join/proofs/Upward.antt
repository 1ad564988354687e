-- One equation for each type determines a table that is filled upward.
use Rattle.std.proofs.Common.{◌≡◌, ℕ, zero, suc, ◌<◌, List, [], ◌∷◌, length, refl, sym, ap, ◌∙◌, inl, inr, arith}
use Rattle.std.specs.Prelude.{Bool, true, false, ◌&&◌, ◌||◌, Contains}
use Rattle.std.specs.List.{list_any}
use Rattle.fcg_analysis.specs.Walks.{step}
use Rattle.fcg_analysis.specs.Declarations.{Placed}
use Rattle.fcg_analysis.specs.Types.{links, above}
use Rattle.fcg_analysis.specs.Laws.Statements.{IsAcyclic}
use Rattle.fcg_analysis.proofs.General.Members.{IsIn, Contains-from_IsIn}
use Rattle.fcg_analysis.proofs.General.Walking.{any_led_goes_on}
use Rattle.fcg_analysis.proofs.LineLaws.{height, height_less, height_small}

any_same : (f g : Placed → Bool) (xs : List Placed) → ((x : Placed) → IsIn x xs → f x ≡ g x) → list_any f xs ≡ list_any g xs
any_same f g [] h = refl
any_same f g (x ∷ xs) h = ap (λ b. b || list_any f xs) (h x (inl refl)) ∙ ap (λ b. g x || b) (any_same f g xs (λ y k. h y (inr k)))

module _ (types : List Placed) (acyclic : IsAcyclic types) (p g : Placed → Bool)
    (eq : (t : Placed) → Contains types t → g t ≡ (p t || list_any (λ u. links t u && g u) types)) where
  filled : (n : ℕ) (t : Placed) → Contains types t → height types acyclic t < n → g t ≡ (p t || list_any p (above types t))
  unfolding above
  filled zero t c l = absurd (omega arith)
  filled (suc n) t c l =
      eq t c ∙ ap (λ b. p t || b) (any_same (λ u. links t u && g u) (λ u. links t u && (p u || list_any p (above types u))) types (each (λ u d m. filled n u d m)) ∙ sym (any_led_goes_on links types p t))
    where
      linked : ((u : Placed) → Contains types u → height types acyclic u < n → g u ≡ (p u || list_any p (above types u)))
          → (u : Placed) → IsIn u types → (b : Bool) → links t u ≡ b → (b && g u) ≡ (b && (p u || list_any p (above types u)))
      linked r u i true e =
          let d : Contains types u = Contains-from_IsIn types u i in
          let m : height types acyclic u < height types acyclic t = height_less types acyclic u t (step d e) d in
          r u d (omega arith)
      linked r u i false e = refl

      each : ((u : Placed) → Contains types u → height types acyclic u < n → g u ≡ (p u || list_any p (above types u)))
          → (u : Placed) → IsIn u types → (links t u && g u) ≡ (links t u && (p u || list_any p (above types u)))
      each r u i = linked r u i (links t u) refl

  pub upward : (t : Placed) → Contains types t → g t ≡ (p t || list_any p (above types t))
  upward t c = filled (length types) t c (height_small types acyclic t c)
