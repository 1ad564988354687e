-- Rows that stand one after the other.
use Rattle.std.specs.Prelude.{ℕ, zero, suc, ◌+◌, List, [], ◌∷◌, Result, Ok}
use Rattle.fcg_grammar.specs.Reading.{◌>>=◌}

-- n rows from number k on: each is read from the state that the one before it left, such as the place
abbrev pub rows : {X S E : Type 0} → (ℕ → S → Result (X × S) E) → ℕ → ℕ → S → Result (List X × S) E
rows read zero k s = Ok ([], s)
rows read (suc n) k s = do
  first ← read k s
  others ← rows read n (k + 1) first.1
  Ok (first.0 ∷ others.0, others.1)

-- the state that the rows leave, where their values aren't kept
abbrev pub ended : {X S E : Type 0} → Result (List X × S) E → Result S E
ended read = read >>= λ x. Ok x.1

-- what each member of a list gives, from the state that the one before it left
abbrev pub carried : {X Y S E : Type 0} → (X → S → Result (Y × S) E) → List X → S → Result (List Y × S) E
carried read [] s = Ok ([], s)
carried read (x ∷ xs) s = do
  first ← read x s
  others ← carried read xs first.1
  Ok (first.0 ∷ others.0, others.1)

-- each member of a list keeps its rule, the first from number k on
abbrev pub each : {X E : Type 0} → (ℕ → X → Result (Unit {0}) E) → ℕ → List X → Result (Unit {0}) E
each rule k [] = Ok tt
each rule k (x ∷ xs) = do
  kept ← rule k x
  each rule (k + 1) xs
