use Rattle.std.proofs.Common.{◌≡◌, List, sym, subst, ◌∙◌}
use Rattle.std.specs.Prelude.{Some, slice_get}
use Rattle.fcg_partial.specs.Parts.{PartShown}
use Rattle.fcg_analysis.proofs.General.Places.{some_at}
use Rattle.fcg_join.specs.Parts.{nodes_of}
use Rattle.fcg_stitch.specs.Internal.References.{StandsAt}
use Rattle.fcg_stitch.proofs.stitched.Stitched.site_count.Goals as goal

pub count_sites-requires : goal.count_sites-requires
count_sites-requires c =
    let n = some_at (nodes_of c.args.self.now) c.args.node c.requires in
    let h = c.find_place-at.ensures n.0 (subst (λ (ps : List PartShown). slice_get (nodes_of ps) c.args.node ≡ Some n.0) (sym c.self.view_is) n.1) in
    (n.0.method, subst (λ (ps : List PartShown). StandsAt ps c.find_place-at.result n.0.method) (sym (c.as_slice.ensures ∙ c.parts.ensures)) h)
