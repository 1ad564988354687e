use Rattle.std.proofs.Common.{◌≡◌, ◌+◌, drop}
use Rattle.fcg_grammar.specs.Rows.{each}
use Rattle.fcg_classfile.specs.Breaks.Pool.{slot_kept}
use Rattle.fcg_pool.proofs.pool.Pool.check.Given as goal

abbrev pub invariant-loop-i : goal.invariant-loop-i
invariant-loop-i l = each (slot_kept l.self) (l.i + 1) (drop l.i l.self.slots) ≡ each (slot_kept l.self) 1 l.self.slots
