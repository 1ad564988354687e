use Rattle.std.proofs.Common.{◌≡◌, ◌++◌, replicate}
use Rattle.fcg_join.proofs.nodes.push_owner.Given as goal

abbrev pub invariant-loop : goal.invariant-loop
invariant-loop l = l.owners.items ≡ l.fn.owners.items ++ replicate l.counter l.y
