use Rattle.std.proofs.Common.{◌≡◌, ◌+◌, length, drop, sum_by}
use Rattle.fcg_reader.proofs.finish.count_sites.Given as goal

abbrev pub invariant-loop-unfinished : goal.invariant-loop-unfinished
invariant-loop-unfinished l = l.count + sum_by (λ m. length m.0.sites) (drop l.unfinished-index l.methods) ≡ sum_by (λ m. length m.0.sites) l.methods
