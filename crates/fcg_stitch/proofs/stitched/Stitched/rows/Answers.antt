use Rattle.std.proofs.Common.{List, subst}
use Rattle.fcg_partial.specs.Parts.{PartShown}
use Rattle.fcg_stitch.specs.Internal.Tables.{AreTables}
use Rattle.fcg_stitch.proofs.EdgeTables.{rows_have_edges}
use Rattle.fcg_stitch.proofs.stitched.Stitched.rows.Goals as goal

pub returns-clause-edges : goal.returns-clause-edges
returns-clause-edges c =
    let t = subst (λ (ps : List PartShown). AreTables ps c.self.inside.rows c.self.inside.statuses.items c.self.inside.firsts.items c.self.inside.phantoms c.self.inside.failed) c.self.view_is c.self.invariant in
    rows_have_edges _ _ _ _ t.nodes
