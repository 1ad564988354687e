use Rattle.std.proofs.Common.{◌≡◌, take}
use Rattle.fcg_make.specs.Needs.{rows_of}
use Rattle.fcg_make.proofs.step.collect_rows.Given as goal

abbrev pub invariant-loop-method : goal.invariant-loop-method
invariant-loop-method l = l.rows.items ≡ rows_of (take l.method-index l.methods)
