-- Which views win, by the numbers of their names.
use Rattle.std.specs.Prelude.{ℕ, List, [], ◌∷◌, ◌++◌, Bool, not, ◌==◌, if◌then◌else◌}
use Rattle.std.specs.List.{list_any}
use Rattle.fcg_grammar.specs.Table.{place}
use Rattle.fcg_analysis.specs.Declarations.{Placed}

-- the number of a type's name: its place in a list of names
abbrev pub name_number : List (List ℕ) → Placed → ℕ
name_number names t = place names t.view.name

-- a mark for each number, which is set where no earlier one is the same
abbrev pub first_marks_after : List ℕ → List ℕ → List Bool
first_marks_after earlier [] = []
first_marks_after earlier (n ∷ later) = not (list_any (λ m. m == n) earlier) ∷ first_marks_after (earlier ++ n ∷ []) later

abbrev pub first_marks : List ℕ → List Bool
first_marks numbers = first_marks_after [] numbers

-- the elements with a mark
abbrev pub marked : {X : Type 0} → List Bool → List X → List X
marked [] xs = []
marked (m ∷ ms) [] = []
marked (m ∷ ms) (x ∷ xs) = if m then x ∷ marked ms xs else marked ms xs
