-- Where the rows stand in the bytes that are kept.
use Rattle.std.specs.Prelude.{◌≡◌, ℕ, ◌+◌, ◌≤◌, List, [], ◌∷◌, length, Option, Some, None, Result}
use Rattle.fcg_grammar.specs.Number.{u2, part}
use Rattle.std.specs.Borrow.{Bor}
use Rattle.fcg_partial.specs.declared.fault.RecordFault.{RecordFault}
use Rattle.fcg_grammar.specs.Reading.{seen}
use Rattle.fcg_grammar.specs.Rows.{rows}
use Rattle.fcg_partial.specs.Reading.{TablePlace, name_at}

-- the name whose length stands at a place
abbrev pub text_at : List ℕ → ℕ → List ℕ
text_at bytes at = part bytes (at + 2) (u2 bytes at)

abbrev pub HasText : List ℕ → ℕ → Type 0
HasText bytes at = at + 2 + u2 bytes at ≤ length bytes

abbrev pub after_row : ℕ → List ℕ → TablePlace
after_row at last = record { at = at; last = Some last }

abbrev pub of_last : Option (Bor (List ℕ)) → Option (List ℕ)
of_last None = None
of_last (Some last) = Some last.now

abbrev pub first_row : ℕ → TablePlace
first_row at = record { at = at; last = None }

-- the names, and where they end
abbrev pub names_read : List ℕ → ℕ → ℕ → Result (List (List ℕ) × ℕ) RecordFault
names_read bytes count at = seen (λ x. (x.0, x.1.at)) (rows (name_at bytes) count 0 (first_row at))

abbrev pub same_row : List ℕ → List ℕ
same_row row = row

-- names stand at these places, one after the other from a place on, up to an end
abbrev pub Follow : List ℕ → ℕ → List ℕ → ℕ → Type 0
Follow bytes at [] end = at ≡ end
Follow bytes at (p ∷ ps) end = (p ≡ at) × Follow bytes (at + 2 + u2 bytes at) ps end
