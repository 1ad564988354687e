use Rattle.std.proofs.Common.{◌≡◌, ◌<◌, List, length, sym, ap, subst, ◌∙◌}
use Rattle.fcg_views.specs.declared.view.View.{View}
use Rattle.fcg_partial.specs.Parts.{PartShown}
use Rattle.fcg_partial.specs.Views.{graph_of}
use Rattle.fcg_partial.specs.Accessors.{type_in, method_in}
use Rattle.fcg_stitch.proofs.PlaceLaws.{part_there, method_within, sites_many}
use Rattle.fcg_stitch.proofs.place.count_sites.Goals as goal

pub method_at-requires : goal.method_at-requires
method_at-requires c =
    let a = c.requires.1 in
    let p = part_there c.args.parts.now c.args.at.part c.index-parts-at.result a.part a.part_is c.index-parts-at.is in
    let e : c.graph.result.now ≡ a.part.views = c.graph.ensures ∙ ap (λ (q : PartShown). q.views) p in
    subst (λ (vs : List View). c.args.at.index < length (type_in (graph_of vs) c.args.at.place).methods) (sym e)
    (method_within a.part c.args.at.place c.args.at.index a.view a.view_is c.requires.0 a.method_is)

pub returns : goal.returns
returns c = λ m a. (
    let p = part_there c.args.parts.now c.args.at.part c.index-parts-at.result a.part a.part_is c.index-parts-at.is in
    let e : c.graph.result.now ≡ a.part.views = c.graph.ensures ∙ ap (λ (q : PartShown). q.views) p in
    c.method_at.ensures.sites ∙ ap (λ (vs : List View). length (method_in (graph_of vs) c.args.at.place c.args.at.index).sites) e
    ∙ sites_many a.part c.args.at.place c.args.at.index a.view a.view_is m a.method_is)
