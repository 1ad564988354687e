use Rattle.fcg_partial.specs.Views.{graph_of, text_of}
use Rattle.fcg_partial.proofs.AccessLaws.{site_there}
use Rattle.fcg_partial.proofs.RowLaws.{has_site, site_below}
use Rattle.fcg_partial.proofs.graph.PartialGraph.site_at.Goals as goal

pub method_place-requires : goal.method_place-requires
method_place-requires c = let h = has_site (graph_of c.args.self.now) c.args.i c.args.k c.args.s c.requires in (h.1.0, h.1.1)

pub load_site-requires-clause-there : goal.load_site-requires-clause-there
load_site-requires-clause-there c =
    let h = has_site (graph_of c.args.self.now) c.args.i c.args.k c.args.s c.requires in
    let r = h.1 in
    (h.0, site_there (text_of c.args.self.now) c.as_bytes.result.now c.as_bytes.ensures c.method_place.result c.args.s r.0 h.0 (c.method_place.ensures.there r.0 r.1) r.2)

pub returns-clause-row : goal.returns-clause-row
returns-clause-row c = λ x h. c.load_site.ensures x (site_there (text_of c.args.self.now) c.as_bytes.result.now c.as_bytes.ensures c.method_place.result c.args.s h.0 x (c.method_place.ensures.there h.0 h.1) h.2)

pub returns-clause-below : goal.returns-clause-below
returns-clause-below c = site_below (graph_of c.args.self.now) c.tell_graph.ensures.graph c.args.i c.args.k c.args.s c.load_site.result c.requires (λ x h. c.load_site.ensures x (site_there (text_of c.args.self.now) c.as_bytes.result.now c.as_bytes.ensures c.method_place.result c.args.s h.0 x (c.method_place.ensures.there h.0 h.1) h.2))
