use Rattle.std.proofs.Common.{◌≡◌, ℕ, List, [], ◌∷◌, ◌++◌, drop}
use Rattle.std.specs.Prelude.{map}
use Rattle.fcg_grammar.specs.Table.{place}
use Rattle.fcg_join.specs.Parts.{placed_view}
use Rattle.fcg_join.specs.SetNames.{part_names}
use Rattle.fcg_join.specs.Internal.TypeHeads.{head_of, heads_in}
use Rattle.fcg_join.specs.Internal.Collected.{collected}
use Rattle.fcg_join.proofs.heads.push_heads.Given as goal

abbrev pub invariant-loop-k : goal.invariant-loop-k
invariant-loop-k l = (names : List (List ℕ)) → l.numbers ≡ map (place names) (part_names l.part)
    → l.heads.items ++ collected (λ k v. head_of names l.i k (placed_view l.part v) ∷ []) l.k (drop l.k l.part.views) ≡ l.fn.heads.items ++ heads_in names l.i l.part
