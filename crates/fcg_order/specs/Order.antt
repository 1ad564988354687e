-- Circles of links, and the order against the links.
use Rattle.std.specs.Prelude.{◌≡◌, ◌≢◌, ◌↔◌, ℕ, ◌<◌, List, ◌∷◌, ◌++◌, length, Bool, true, false, slice_index_or, Contains}
use Rattle.std.specs.List.{AllPairs}
use Rattle.fcg_order.specs.Links.{HasLink, IsCircular}

-- a mark of each node, which is set where the node lies on a circle
pub record MarksCircles (rows : List (List ℕ)) (marks : List Bool) : Type 0 where
  pub long : length marks ≡ length rows
  pub each : (x : ℕ) → x < length rows → (slice_index_or marks x false ≡ true) ↔ IsCircular rows x

-- The nodes, each once, and each that lies on no circle after all to which it links. Where there is no circle this is a
-- topological order, with the links turned round.
pub record IsOrder (rows : List (List ℕ)) (order : List ℕ) : Type 0 where
  pub each : (x : ℕ) → Contains order x ↔ (x < length rows)
  pub once : AllPairs (λ x y. x ≢ y) order
  pub after : (before later : List ℕ) (x y : ℕ) → order ≡ before ++ x ∷ later → ¬ IsCircular rows x → HasLink rows x y → Contains before y
