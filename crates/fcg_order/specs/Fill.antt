-- Marks that are handed on against the links.
use Rattle.std.specs.Prelude.{◌≡◌, ◌⊎◌, ℕ, ◌<◌, ◌||◌, List, Bool, true, false, length, slice_index_or}
use Rattle.std.specs.List.{list_any}
use Rattle.fcg_order.specs.Links.{row, LinkWalk, IsCircular}

-- whether one of the nodes has a mark
abbrev pub any_marked : List Bool → List ℕ → Bool
any_marked marks nodes = list_any (λ x. slice_index_or marks x false) nodes

-- x has a mark, or a walk of links leads from it to a node that has one
abbrev pub ReachesMark : List (List ℕ) → List Bool → ℕ → Type 0
ReachesMark rows marks x = (slice_index_or marks x false ≡ true) ⊎ ((y : ℕ) × LinkWalk rows x y × (slice_index_or marks y false ≡ true))

-- No mark is taken away, and each comes along links from one that was there. A node that lies on no circle has a mark
-- exactly where it had one, or where a node has one to which it links.
pub record IsFilled (rows : List (List ℕ)) (old new : List Bool) : Type 0 where
  pub long : length new ≡ length rows
  pub kept : (x : ℕ) → slice_index_or old x false ≡ true → slice_index_or new x false ≡ true
  pub cause : (x : ℕ) → slice_index_or new x false ≡ true → ReachesMark rows old x
  pub each : (x : ℕ) → x < length rows → ¬ IsCircular rows x → slice_index_or new x false ≡ (slice_index_or old x false || any_marked new (row rows x))
