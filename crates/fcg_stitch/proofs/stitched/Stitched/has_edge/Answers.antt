use Rattle.std.proofs.Common.{List, subst, ◌∙◌}
use Rattle.fcg_partial.specs.Parts.{PartShown}
use Rattle.fcg_stitch.specs.Internal.Tables.{AreTables}
use Rattle.fcg_stitch.proofs.EdgeTables.{led_as}
use Rattle.fcg_stitch.proofs.stitched.Stitched.has_edge.Goals as goal

pub returns : goal.returns
returns c = λ x y h k.
    let t = subst (λ (ps : List PartShown). AreTables ps c.self.inside.rows c.self.inside.statuses.items c.self.inside.firsts.items c.self.inside.phantoms c.self.inside.failed) c.self.view_is c.self.invariant in
    c.has_edge.ensures ∙ led_as _ _ _ _ t.nodes c.args.a c.args.b x y h k
