-- A walk down a list that tells whether its items are distinct.
use Rattle.std.proofs.Common.{◌≡◌, Bool, true, false, List, [], ◌∷◌, length, All, refl, sym, subst, arith}
use Rattle.std.specs.Prelude.{IsTrue, ◌↔◌}
use Rattle.std.specs.List.{IsDistinct}
use Rattle.std.proofs.lemmas.List.Elements.{All-from_recursion, recursion_from_All}
use Rattle.std.proofs.lemmas.Map.Keys.{IsDistinct-cons, IsDistinct-head, IsDistinct-tail}

module _ {X : Type 0} (e : X → X → Bool) where
  -- the items are distinct exactly if the rest is
  abbrev Walked : List X → List X → Type 0
  Walked all rest = (IsDistinct e all → IsDistinct e rest) × (IsDistinct e rest → IsDistinct e all)

  abbrev Alone : X → List X → Type 0
  Alone x others = All (λ y. e x y ≡ false) others

  pub walked_one : (all rest others : List X) (x : X) → rest ≡ x ∷ others → Alone x others → Walked all rest → Walked all others
  walked_one all rest others x split alone walked = (
    λ d. IsDistinct-tail e x others (subst (IsDistinct e) split (walked.0 d)),
    λ d. walked.1 (subst (IsDistinct e) (sym split) (IsDistinct-cons e x others (recursion_from_All (λ y. e x y ≡ false) others alone) d)),
  )

  pub stopped : (all rest others : List X) (x : X) → rest ≡ x ∷ others → (Alone x others → IsTrue false) → Walked all rest → IsTrue false ↔ IsDistinct e all
  stopped all rest others x split alike walked = (
    λ no. cc,
    λ d. alike (All-from_recursion (λ y. e x y ≡ false) others (IsDistinct-head e x others (subst (IsDistinct e) split (walked.0 d)))),
  )

  none_left : (rest : List X) → length rest ≡ 0 → IsDistinct e rest
  unfolding IsDistinct
  none_left [] end = tt
  none_left (x ∷ xs) end = absurd (omega arith)

  pub walked_all : (all rest : List X) → length rest ≡ 0 → Walked all rest → IsTrue true ↔ IsDistinct e all
  walked_all all rest end walked = (λ yes. walked.1 (none_left rest end), λ d. refl)
