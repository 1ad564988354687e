use Rattle.std.proofs.Common.{List, ℕ, ◌+◌, ap, subst, ◌∙◌}
use Rattle.std.specs.Prelude.{slice_get}
use Rattle.fcg_partial.specs.Parts.{PartShown}
use Rattle.fcg_stitch.specs.Internal.Tables.{AreTables}
use Rattle.fcg_stitch.proofs.EdgeTables.{rows_have_edges}
use Rattle.fcg_stitch.proofs.stitched.Stitched.next_edge.Goals as goal

pub returns : goal.returns
returns c = λ k h.
    let t = subst (λ (ps : List PartShown). AreTables ps c.self.inside.rows c.self.inside.statuses.items c.self.inside.firsts.items c.self.inside.phantoms c.self.inside.failed) c.self.view_is c.self.invariant in
    let e = rows_have_edges _ _ _ _ t.nodes in
    c.next_edge.ensures k (ap (λ (es : List (ℕ × ℕ)). slice_get es k) e ∙ h) ∙ ap (λ (es : List (ℕ × ℕ)). slice_get es (k + 1)) e
