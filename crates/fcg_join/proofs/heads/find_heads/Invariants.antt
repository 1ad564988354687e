use Rattle.std.proofs.Common.{◌≡◌, ◌++◌, drop}
use Rattle.fcg_join.specs.SetNames.{set_names}
use Rattle.fcg_join.specs.Internal.TypeHeads.{heads_in, heads_of}
use Rattle.fcg_join.specs.Internal.Collected.{collected}
use Rattle.fcg_join.proofs.heads.find_heads.Given as goal

abbrev pub invariant-loop-i : goal.invariant-loop-i
invariant-loop-i l = l.heads.items ++ collected (heads_in (set_names l.parts)) l.i (drop l.i l.parts) ≡ heads_of (set_names l.parts) l.parts
