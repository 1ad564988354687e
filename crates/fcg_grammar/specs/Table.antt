-- Tables: lists of rows that rise strictly, each row once.
use Rattle.std.specs.Prelude.{ℕ, suc, List, [], ◌∷◌, nat_eq, if◌then◌else◌}
use Rattle.std.specs.List.{Contains}
use Rattle.std.specs.List.Sorted.{IsStrictlySortedBy}
use Rattle.std.specs.Cmp.Lexicographic.{slice_cmp, pointwise}
use Rattle.std.specs.Ordering.{nat_cmp}
use Rattle.std.specs.declared.cmp.Ordering.{Ordering}
use Rattle.std.specs.declared.cmp.Ordering.TheVariants.{Less, Equal, Greater}

-- Rows are compared number by number, bytes byte by byte, and a proper front is smaller.
abbrev pub order : List ℕ → List ℕ → Ordering
order = slice_cmp nat_cmp

abbrev pub Rises : List (List ℕ) → Type 0
Rises rows = IsStrictlySortedBy order rows

-- the rows of a table are those of a list, in their order
pub record IsTable (xs rows : List (List ℕ)) : Type 0 where
  pub rises : Rises rows
  pub each : (x : List ℕ) → Contains xs x → Contains rows x
  pub used : (x : List ℕ) → Contains rows x → Contains xs x

-- a row put into a table, in front of the first that is greater, unless it is there
abbrev pub by : {X : Type 0} → Ordering → X → X → X → X
by Less a b c = a
by Equal a b c = b
by Greater a b c = c

abbrev pub put : List ℕ → List (List ℕ) → List (List ℕ)
put x [] = x ∷ []
put x (y ∷ ys) = by (order x y) (x ∷ y ∷ ys) (y ∷ ys) (y ∷ put x ys)

-- the table of the rows of a list
unfoldable pub table : List (List ℕ) → List (List ℕ)
table [] = []
table (x ∷ xs) = put x (table xs)

-- the place of a row, from 0
unfoldable pub place : List (List ℕ) → List ℕ → ℕ
place [] x = 0
place (y ∷ ys) x = if pointwise nat_eq y x then 0 else suc (place ys x)
