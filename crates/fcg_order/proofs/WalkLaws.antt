-- Walks of one or more links.
use Rattle.std.proofs.Common.{ℕ, List, inl, inr}
use Rattle.std.specs.Prelude.{◌⊎◌}
use Rattle.fcg_order.specs.Links.{HasLink, LinkWalk, first_link, next_link}

pub joined : {rows : List (List ℕ)} {x y z : ℕ} → LinkWalk rows x y → LinkWalk rows y z → LinkWalk rows x z
joined w (first_link l) = next_link w l
joined w (next_link v l) = next_link (joined w v) l

-- the first link of a walk
pub first_of_walk : {rows : List (List ℕ)} {x y : ℕ} → LinkWalk rows x y → (HasLink rows x y) ⊎ ((z : ℕ) × HasLink rows x z × LinkWalk rows z y)
first_of_walk (first_link l) = inl l
first_of_walk (next_link {y = y} w l) =
    elim (first_of_walk w) [
      | inl e ↦ inr (y, e, first_link l)
      | inr r ↦ inr (r.0, r.1, next_link r.2 l)
    ]

-- what links keep, walks keep
pub kept_along : {rows : List (List ℕ)} {x y : ℕ} (P : ℕ → Type 0) → ((v w : ℕ) → P v → HasLink rows v w → P w) → P x → LinkWalk rows x y → P y
kept_along {x = x} {y = y} P k p (first_link l) = k x y p l
kept_along {x = x} {y = z} P k p (next_link {y = y} w l) = k y z (kept_along P k p w) l
