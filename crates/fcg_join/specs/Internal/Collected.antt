-- What a function gives of each element of a list with its place, one after the other.
use Rattle.std.specs.Prelude.{ℕ, ◌+◌, List, [], ◌∷◌, ◌++◌}

-- the first has the place n
abbrev pub collected : {X Y : Type 0} → (ℕ → X → List Y) → ℕ → List X → List Y
collected f n [] = []
collected f n (x ∷ xs) = f n x ++ collected f (n + 1) xs
