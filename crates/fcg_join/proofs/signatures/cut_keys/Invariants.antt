use Rattle.std.proofs.Common.{length}
use Rattle.fcg_join.specs.Internal.Signatures.{IsCutUpTo}
use Rattle.fcg_join.proofs.signatures.cut_keys.Given as goal

abbrev pub invariant-loop-rest : goal.invariant-loop-rest
invariant-loop-rest l = IsCutUpTo l.keys l.rest l.pairs.items l.rows

abbrev pub decreases-loop-rest : goal.decreases-loop-rest
decreases-loop-rest l = length l.rest
