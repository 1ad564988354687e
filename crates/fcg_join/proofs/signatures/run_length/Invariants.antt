use Rattle.std.proofs.Common.{◌≡◌, ◌+◌, drop}
use Rattle.std.specs.List.{prefix_len}
use Rattle.fcg_join.specs.Internal.Signatures.{same_pair}
use Rattle.fcg_join.proofs.signatures.run_length.Given as goal

abbrev pub invariant-loop-place : goal.invariant-loop-place
invariant-loop-place l = prefix_len (λ k. same_pair l.pair k.0) l.keys ≡ l.place + prefix_len (λ k. same_pair l.pair k.0) (drop l.place l.keys)
