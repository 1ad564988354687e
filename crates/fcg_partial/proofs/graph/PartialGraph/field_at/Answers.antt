use Rattle.std.proofs.Common.{ℕ, List, sym, subst}
use Rattle.fcg_partial.specs.Internal.StandingRows.{IsTypeAt}
use Rattle.fcg_partial.specs.Views.{graph_of, text_of}
use Rattle.fcg_partial.proofs.AccessLaws.{field_there}
use Rattle.fcg_partial.proofs.RowLaws.{has_field, field_below}
use Rattle.fcg_partial.proofs.graph.PartialGraph.field_at.Goals as goal

pub type_place-requires : goal.type_place-requires
type_place-requires c = let h = has_field (graph_of c.args.self.now) c.args.i c.args.j c.requires in (h.1.0, h.1.1)

pub find_fields-fields-requires-clause-there : goal.find_fields-fields-requires-clause-there
find_fields-fields-requires-clause-there c =
    let h = has_field (graph_of c.args.self.now) c.args.i c.args.j c.requires in
    (h.1.0, subst (λ (b : List ℕ). IsTypeAt b c.type_place.result h.1.0) (sym c.as_bytes-bytes.ensures) (c.type_place.ensures.there h.1.0 h.1.1))

pub load_field-requires-clause-there : goal.load_field-requires-clause-there
load_field-requires-clause-there c =
    let h = has_field (graph_of c.args.self.now) c.args.i c.args.j c.requires in
    let r = h.1 in
    (h.0, field_there (text_of c.args.self.now) c.as_bytes-bytes.result.now c.as_bytes-bytes.ensures c.type_place.result c.from.result c.args.j c.from.ensures r.0 h.0 c.find_fields-fields.result c.find_fields-fields.ensures.value (c.type_place.ensures.there r.0 r.1) r.2)

pub returns-clause-row : goal.returns-clause-row
returns-clause-row c = λ f h. c.load_field.ensures f (field_there (text_of c.args.self.now) c.as_bytes-bytes.result.now c.as_bytes-bytes.ensures c.type_place.result c.from.result c.args.j c.from.ensures h.0 f c.find_fields-fields.result c.find_fields-fields.ensures.value (c.type_place.ensures.there h.0 h.1) h.2)

pub returns-clause-below : goal.returns-clause-below
returns-clause-below c = field_below (graph_of c.args.self.now) c.tell_graph.ensures.graph c.args.i c.args.j c.load_field.result c.requires (λ f h. c.load_field.ensures f (field_there (text_of c.args.self.now) c.as_bytes-bytes.result.now c.as_bytes-bytes.ensures c.type_place.result c.from.result c.args.j c.from.ensures h.0 f c.find_fields-fields.result c.find_fields-fields.ensures.value (c.type_place.ensures.there h.0 h.1) h.2))
