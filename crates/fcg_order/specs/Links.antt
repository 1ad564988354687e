-- Links between nodes. The nodes are the numbers below the length of a list, which has for each of them the nodes to which
-- it links.
use Rattle.std.specs.Prelude.{ℕ, ◌<◌, List, [], length, slice_index_or, Contains}

-- the nodes to which x links
abbrev pub row : List (List ℕ) → ℕ → List ℕ
row rows x = slice_index_or rows x []

-- x links to y
abbrev pub HasLink : List (List ℕ) → ℕ → ℕ → Type 0
HasLink rows x y = Contains (row rows x) y

-- each link leads to a node
pub record IsWithin (rows : List (List ℕ)) : Type 0 where
  pub each : (x y : ℕ) → HasLink rows x y → y < length rows

-- one or more links lead from x to y
pub data LinkWalk (rows : List (List ℕ)) : ℕ → ℕ → Type 0 where
  first_link : {x y : ℕ} → HasLink rows x y → LinkWalk rows x y
  next_link : {x y z : ℕ} → LinkWalk rows x y → HasLink rows y z → LinkWalk rows x z

-- x lies on a circle: a walk of links leads from it back to itself
abbrev pub IsCircular : List (List ℕ) → ℕ → Type 0
IsCircular rows x = LinkWalk rows x x
