use Rattle.std.proofs.Common.{◌≡◌, drop}
use Rattle.fcg_edges.specs.Rows.{any_has}
use Rattle.fcg_edges.proofs.edge_rows.EdgeRows.has_listed.Given as goal

abbrev pub invariant-loop-l : goal.invariant-loop-l
invariant-loop-l l = any_has l.self.lists (drop l.l-index l.l-items) l.b ≡ any_has l.self.lists l.l-items l.b
