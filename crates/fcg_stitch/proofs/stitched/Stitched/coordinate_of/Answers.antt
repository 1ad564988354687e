use Rattle.std.proofs.Common.{◌<◌, List, length, get_or, sym, ap, subst, ◌∙◌}
use Rattle.fcg_partial.specs.Parts.{PartShown}
use Rattle.fcg_analysis.proofs.General.Places.{some_at}
use Rattle.fcg_join.specs.Parts.{types_of}
use Rattle.fcg_join.specs.Joined.{HasType}
use Rattle.fcg_stitch.proofs.TypeOrigins.{part_within, coordinate_is}
use Rattle.fcg_stitch.proofs.stitched.Stitched.coordinate_of.Goals as goal

pub bounds-as_slice-part : goal.bounds-as_slice-part
bounds-as_slice-part c =
    let x = some_at (types_of c.args.self.now) c.args.t.0 c.requires in
    let o = c.origin-part.ensures x.0 (subst (λ (ps : List PartShown). HasType ps c.args.t x.0) (sym c.self.view_is) x.1) in
    subst (λ (ps : List PartShown). c.origin-part.result.part < length ps) (sym (c.as_slice.ensures ∙ c.parts.ensures)) (part_within _ _ _ _ o)

pub returns : goal.returns
returns c = λ x h.
    let o = c.origin-part.ensures x (subst (λ (ps : List PartShown). HasType ps c.args.t x) (sym c.self.view_is) h) in
    let there = c.index-as_slice-part.is ∙ ap (λ (ps : List PartShown). get_or ps c.origin-part.result.part c.index-as_slice-part.result) (c.as_slice.ensures ∙ c.parts.ensures) in
    c.coordinate.ensures ∙ coordinate_is _ _ _ _ o c.index-as_slice-part.result there
