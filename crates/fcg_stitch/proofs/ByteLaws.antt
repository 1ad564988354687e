-- The bytes of the graphs of parts, summed up to a limit.
use Rattle.std.proofs.Common.{◌≡◌, ℕ, ◌+◌, ◌≤◌, ◌<◌, List, length, get_or, drop, ap, ◌∙◌, arith}
use Rattle.std.specs.Prelude.{min}
use Rattle.fcg_partial.specs.Parts.{PartShown, encoded_len}
use Rattle.fcg_partial.specs.Views.{text_of}
use Rattle.fcg_join.proofs.JoinLaws.{encoded_more, encoded_none}

limited : (a r m : ℕ) → min (min a m + r) m ≡ min (a + r) m
limited a r m = omega arith

-- one part more
pub bytes_more : (ps : List PartShown) (i b m : ℕ) (p : PartShown) → i < length ps → p ≡ get_or ps i p
    → min (min (b + length (text_of p.views)) m + encoded_len (drop (i + 1) ps)) m ≡ min (b + encoded_len (drop i ps)) m
bytes_more ps i b m p l e =
    let s = length (text_of p.views) in
    let r = encoded_len (drop (i + 1) ps) in
    let sum : b + s + r ≡ b + encoded_len (drop i ps) = (let q = encoded_more ps i p l e in omega arith) in
    limited (b + s) r m ∙ ap (λ n. min n m) sum

-- all parts
pub bytes_all : (ps : List PartShown) (i b m : ℕ) → length ps ≤ i → b ≤ m → b ≡ min (b + encoded_len (drop i ps)) m
bytes_all ps i b m l h = (let e = encoded_none ps i l in omega arith)
