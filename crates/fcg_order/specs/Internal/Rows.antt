-- Rows that stand one after the other in one list, by their starts and the end of the last.
use Rattle.std.specs.Prelude.{◌≡◌, ℕ, ◌≤◌, List, [], ◌∷◌, length, take, drop}

-- the rows between these starts
abbrev pub rows_of : List ℕ → List ℕ → List (List ℕ)
rows_of [] targets = []
rows_of (a ∷ []) targets = []
rows_of (a ∷ b ∷ starts) targets = drop a (take b targets) ∷ rows_of (b ∷ starts) targets

-- no start is before an earlier one, and the last row ends at the end
abbrev pub AreStarts : List ℕ → List ℕ → Type 0
AreStarts [] targets = ⊥
AreStarts (a ∷ []) targets = a ≡ length targets
AreStarts (a ∷ b ∷ starts) targets = (a ≤ b) × AreStarts (b ∷ starts) targets
