use Rattle.fcg_partial.specs.Views.{graph_of, text_of}
use Rattle.fcg_partial.proofs.AccessLaws.{interface_there}
use Rattle.fcg_partial.proofs.RowLaws.{has_interface, interface_below}
use Rattle.fcg_partial.proofs.graph.PartialGraph.interface_at.Goals as goal

pub type_place-requires : goal.type_place-requires
type_place-requires c = let h = has_interface (graph_of c.args.self.now) c.args.i c.args.j c.requires in (h.1.0, h.1.1)

pub load_u4-requires : goal.load_u4-requires
load_u4-requires c =
    let h = has_interface (graph_of c.args.self.now) c.args.i c.args.j c.requires in
    let r = h.1 in
    (h.0, interface_there (text_of c.args.self.now) c.as_bytes.result.now c.as_bytes.ensures c.type_place.result c.from.result c.args.j c.from.ensures r.0 h.0 (c.type_place.ensures.there r.0 r.1) r.2)

pub returns-clause-row : goal.returns-clause-row
returns-clause-row c = λ n h. c.load_u4.ensures n (interface_there (text_of c.args.self.now) c.as_bytes.result.now c.as_bytes.ensures c.type_place.result c.from.result c.args.j c.from.ensures h.0 n (c.type_place.ensures.there h.0 h.1) h.2)

pub returns-clause-below : goal.returns-clause-below
returns-clause-below c = interface_below (graph_of c.args.self.now) c.tell_graph.ensures.graph c.args.i c.args.j c.load_u4.result c.requires (λ n h. c.load_u4.ensures n (interface_there (text_of c.args.self.now) c.as_bytes.result.now c.as_bytes.ensures c.type_place.result c.from.result c.args.j c.from.ensures h.0 n (c.type_place.ensures.there h.0 h.1) h.2))
