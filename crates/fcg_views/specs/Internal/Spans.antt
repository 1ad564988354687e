-- Parts of a block by their places.
use Rattle.std.specs.Prelude.{ℕ, ◌+◌, ◌≤◌, List, length}
use Rattle.fcg_grammar.specs.Number.{part}

-- where a part begins, and its length
abbrev pub text_at : List ℕ → ℕ × ℕ → List ℕ
text_at block span = part block span.0 span.1

abbrev pub IsSpan : List ℕ → ℕ × ℕ → Type 0
IsSpan block span = span.0 + span.1 ≤ length block
