-- Texts by numbers: the places of their table.
use Rattle.std.specs.Prelude.{◌≡◌, ℕ, ◌<◌, List, [], length, map, All, slice_index_or}
use Rattle.std.specs.Borrow.{Bor}
use Rattle.fcg_grammar.specs.Table.{table, place}

-- the texts to which references lead
abbrev pub texts_of : List (Bor (List ℕ)) → List (List ℕ)
texts_of texts = map (λ t. t.now) texts

-- the text at a place
abbrev pub text_at : List (List ℕ) → ℕ → List ℕ
text_at texts p = slice_index_or texts p []

-- The number of a text is its place in the table of the texts, so equal texts have one number, and numbers rise with the
-- bytes. Each number has the place of a text that has it.
pub record AreNumbered (texts : List (List ℕ)) (numbers places : List ℕ) : Type 0 where
  pub of_texts : numbers ≡ map (place (table texts)) texts
  pub within : All (λ p. p < length texts) places
  pub of_numbers : map (text_at texts) places ≡ table texts
