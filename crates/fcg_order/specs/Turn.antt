-- Rows of numbers, turned round.
use Rattle.std.specs.Prelude.{◌≡◌, ◌↔◌, ℕ, ◌<◌, List, length}
use Rattle.std.specs.List.Sorted.{IsStrictlyIncreasing}
use Rattle.fcg_order.specs.Links.{row, HasLink}

-- each row rises, with numbers below a count
pub record HaveRising (rows : List (List ℕ)) (count : ℕ) : Type 0 where
  pub below : (x n : ℕ) → HasLink rows x n → n < count
  pub rise : (x : ℕ) → x < length rows → IsStrictlyIncreasing (row rows x)

-- for each number below the count a row, which rises and has the numbers of the rows that have the number
pub record AreTurned (rows : List (List ℕ)) (count : ℕ) (turned : List (List ℕ)) : Type 0 where
  pub long : length turned ≡ count
  pub each : (n x : ℕ) → n < count → HasLink turned n x ↔ HasLink rows x n
  pub rise : (n : ℕ) → n < count → IsStrictlyIncreasing (row turned n)
