use Rattle.std.proofs.Common.{ℕ, List, refl, sym, ap, subst, ◌∙◌, []}
use Rattle.fcg_partial.specs.declared.row.SiteRow.{SiteRow}
use Rattle.fcg_partial.specs.Views.{shown_ref, graph_of}
use Rattle.fcg_partial.specs.Accessors.{HasRef}
use Rattle.fcg_partial.proofs.ShownLaws.{target_there, index_or_get}
use Rattle.fcg_partial.proofs.RowLaws.{below_sites}
use Rattle.fcg_partial.proofs.shown.make_site.Goals as goal

pub make_ref-requires-clause-there : goal.make_ref-requires-clause-there
make_ref-requires-clause-there c =
    let h = c.requires.there in
    let g = graph_of c.args.graph.now in
    subst (λ (r : SiteRow). (row : List ℕ) × HasRef g r.reference row) (sym (c.site_at-row.ensures.row h.0 h.1)) (target_there g c.args.names.now c.requires.names c.args.i c.args.k c.args.s h.0 h.1)

pub returns : goal.returns
returns c = λ x h. (
    let g = graph_of c.args.graph.now in
    let is = c.site_at-row.ensures.row x h in
    let there = target_there g c.args.names.now c.requires.names c.args.i c.args.k c.args.s x h in
    let here = subst (λ (r : SiteRow). HasRef g r.reference there.0) (sym is) there.1 in
    let target = c.in_ok-make_ref.ensures there.0 here ∙ ap (shown_ref g.names) (sym (index_or_get g.refs x.reference there.0 [] there.1)) in
    let pc = ap (λ (r : SiteRow). r.pc) is in
    let kind = ap (λ (r : SiteRow). r.kind) is in
    rw (pc, kind, target) refl)

pub site_at-row-requires : goal.site_at-row-requires
site_at-row-requires c = below_sites (graph_of c.args.graph.now) c.args.i c.args.k c.args.s c.requires.there
