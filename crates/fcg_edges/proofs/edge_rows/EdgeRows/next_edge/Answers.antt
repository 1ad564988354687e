use Rattle.std.proofs.Common.{ap, ◌∙◌}
use Rattle.std.specs.Prelude.{slice_get}
use Rattle.fcg_edges.specs.Rows.{edges_of}
use Rattle.fcg_edges.proofs.EdgePlaces.{next_in_row, next_after_row}
use Rattle.fcg_edges.proofs.KeptRows.{rows_kept}
use Rattle.fcg_edges.proofs.edge_rows.EdgeRows.next_edge.Goals as goal

pub returns-in-Some : goal.returns-in-Some
returns-in-Some c = λ k h. (
    let r = c.args.self.now in
    let w = rows_kept _ r c.self.inside.firsts.items c.self.view_is c.self.invariant in
    next_in_row r c.self.inside.firsts.items w k c.args.a c.args.b c.in-Some.target h c.in-Some.ensures)

pub returns-in-None : goal.returns-in-None
returns-in-None c = λ k h. c.first_after.ensures ∙ ap (slice_get (edges_of c.args.self.now)) (next_after_row c.args.self.now k c.args.a c.args.b h c.in-None.ensures)
