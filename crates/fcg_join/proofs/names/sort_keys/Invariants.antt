use Rattle.std.proofs.Common.{◌≡◌, ◌++◌, drop}
use Rattle.fcg_join.specs.Internal.Numbering.{with_places}
use Rattle.fcg_join.proofs.names.sort_keys.Given as goal

abbrev pub invariant-loop-place : goal.invariant-loop-place
invariant-loop-place l = l.keys.items ++ with_places l.place (drop l.place l.texts) ≡ with_places 0 l.texts
