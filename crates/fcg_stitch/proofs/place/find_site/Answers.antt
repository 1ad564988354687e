use Rattle.std.proofs.Common.{◌≡◌, ◌<◌, List, length, sym, ap, subst, ◌∙◌}
use Rattle.fcg_views.specs.declared.view.View.{View}
use Rattle.fcg_partial.specs.Graph.{StoredSite}
use Rattle.fcg_partial.specs.Parts.{PartShown}
use Rattle.fcg_partial.specs.Views.{graph_of}
use Rattle.fcg_partial.specs.Accessors.{HasSite, row_of_site, method_in}
use Rattle.fcg_stitch.proofs.PlaceLaws.{part_there, sites_many, site_is}
use Rattle.fcg_stitch.proofs.place.find_site.Goals as goal

pub site_at-requires : goal.site_at-requires
site_at-requires c =
    let a = c.requires.1 in
    let p = part_there c.args.parts.now c.args.at.part c.index-parts-at.result a.part a.part_is c.index-parts-at.is in
    let e : c.graph.result.now ≡ a.part.views = c.graph.ensures ∙ ap (λ (q : PartShown). q.views) p in
    let many = sites_many a.part c.args.at.place c.args.at.index a.view a.view_is c.requires.0 a.method_is in
    subst (λ (vs : List View). c.args.k < length (method_in (graph_of vs) c.args.at.place c.args.at.index).sites) (sym e) (subst (λ n. c.args.k < n) (sym many) c.requires.2)

pub returns : goal.returns
returns c = λ m site a h. (
    let p = part_there c.args.parts.now c.args.at.part c.index-parts-at.result a.part a.part_is c.index-parts-at.is in
    let e : c.graph.result.now ≡ a.part.views = c.graph.ensures ∙ ap (λ (q : PartShown). q.views) p in
    let each = subst (λ (vs : List View). (x : StoredSite) → HasSite (graph_of vs) c.args.at.place c.args.at.index c.args.k x → c.site_at.result ≡ row_of_site x) e c.site_at.ensures.row in
    let is = site_is a.part c.args.at.place c.args.at.index a.view a.view_is m a.method_is c.args.k site h c.site_at.result each in
    record { kind = is.0; reference = record { part = a.part; part_is = a.part_is; reference_is = is.1 } })
