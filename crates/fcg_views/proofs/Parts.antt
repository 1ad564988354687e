-- A part of a part.
use Rattle.std.proofs.Common.{◌≡◌, ◌≤◌, ◌+◌, ℕ, List, length, arith}
use Rattle.std.proofs.lemmas.List.{same_lists, places}
use Rattle.fcg_grammar.specs.Number.{part}

pub part_short : (xs : List ℕ) (b n : ℕ) → length (part xs b n) ≤ n
part_short xs b n = grind (arith, places)

pub part_of_part : (xs : List ℕ) (b n p q : ℕ) → p + q ≤ length (part xs b n) → part xs (b + p) q ≡ part (part xs b n) p q
part_of_part xs b n p q le = same_lists _ _ (grind (arith, places)) (λ k d h. grind (arith, places))
