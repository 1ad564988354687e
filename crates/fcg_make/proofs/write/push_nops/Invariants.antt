use Rattle.std.proofs.Common.{◌≡◌, ◌++◌, replicate}
use Rattle.fcg_make.proofs.write.push_nops.Given as goal

abbrev pub invariant-loop-index : goal.invariant-loop-index
invariant-loop-index l = l.out.items ≡ l.fn.out.items ++ replicate l._index 0
