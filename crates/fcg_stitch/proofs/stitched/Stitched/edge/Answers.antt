use Rattle.std.proofs.Common.{List, ℕ, ◌<◌, length, sym, ap, subst, ◌∙◌}
use Rattle.std.specs.Prelude.{slice_get}
use Rattle.fcg_partial.specs.Parts.{PartShown}
use Rattle.fcg_stitch.specs.Internal.Tables.{AreTables}
use Rattle.fcg_stitch.proofs.EdgeTables.{rows_have_edges}
use Rattle.fcg_stitch.proofs.stitched.Stitched.edge.Goals as goal

pub edge-requires : goal.edge-requires
edge-requires c =
    let t = subst (λ (ps : List PartShown). AreTables ps c.self.inside.rows c.self.inside.statuses.items c.self.inside.firsts.items c.self.inside.phantoms c.self.inside.failed) c.self.view_is c.self.invariant in
    subst (λ (es : List (ℕ × ℕ)). c.args.k < length es) (sym (rows_have_edges _ _ _ _ t.nodes)) c.requires

pub returns : goal.returns
returns c =
    let t = subst (λ (ps : List PartShown). AreTables ps c.self.inside.rows c.self.inside.statuses.items c.self.inside.firsts.items c.self.inside.phantoms c.self.inside.failed) c.self.view_is c.self.invariant in
    ap (λ (es : List (ℕ × ℕ)). slice_get es c.args.k) (sym (rows_have_edges _ _ _ _ t.nodes)) ∙ c.edge.ensures
