use Rattle.std.proofs.Common.{ℕ, List, sym, subst}
use Rattle.fcg_partial.specs.Internal.StandingRows.{IsTypeAt}
use Rattle.fcg_partial.specs.Views.{graph_of}
use Rattle.fcg_partial.proofs.RowLaws.{has_type, type_below, super_below, counts_are}
use Rattle.fcg_partial.proofs.graph.PartialGraph.type_at.Goals as goal

pub type_place-requires : goal.type_place-requires
type_place-requires c = has_type (graph_of c.args.self.now) c.args.i c.requires

pub load_type-requires-clause-there : goal.load_type-requires-clause-there
load_type-requires-clause-there c =
    let h = has_type (graph_of c.args.self.now) c.args.i c.requires in
    (h.0, subst (λ (b : List ℕ). IsTypeAt b c.type_place.result h.0) (sym c.as_bytes.ensures) (c.type_place.ensures.there h.0 h.1))

pub returns-clause-counts : goal.returns-clause-counts
returns-clause-counts c = counts_are (graph_of c.args.self.now) c.args.i c.load_type.result c.requires (λ t h. c.load_type.ensures t (subst (λ (b : List ℕ). IsTypeAt b c.type_place.result t) (sym c.as_bytes.ensures) (c.type_place.ensures.there t h)))

pub returns-clause-name : goal.returns-clause-name
returns-clause-name c = type_below (graph_of c.args.self.now) c.tell_graph.ensures.graph c.args.i c.load_type.result c.requires (λ t h. c.load_type.ensures t (subst (λ (b : List ℕ). IsTypeAt b c.type_place.result t) (sym c.as_bytes.ensures) (c.type_place.ensures.there t h)))

pub returns-clause-superclass : goal.returns-clause-superclass
returns-clause-superclass c = super_below (graph_of c.args.self.now) c.tell_graph.ensures.graph c.args.i c.load_type.result c.requires (λ t h. c.load_type.ensures t (subst (λ (b : List ℕ). IsTypeAt b c.type_place.result t) (sym c.as_bytes.ensures) (c.type_place.ensures.there t h)))
