use Rattle.std.proofs.Common.{◌≡◌, take}
use Rattle.std.specs.Prelude.{map}
use Rattle.fcg_join.proofs.signatures.fill_row.Given as goal

abbrev pub invariant-loop-key : goal.invariant-loop-key
invariant-loop-key l = l.row.items ≡ map (λ k. k.1) (take l.key-index l.keys)
