use Rattle.std.proofs.Common.{ℕ, List, sym, subst}
use Rattle.fcg_partial.specs.Internal.StandingRows.{IsMethodAt}
use Rattle.fcg_partial.specs.Views.{graph_of}
use Rattle.fcg_partial.proofs.RowLaws.{has_method, method_below, sites_are}
use Rattle.fcg_partial.proofs.graph.PartialGraph.method_at.Goals as goal

pub method_place-requires : goal.method_place-requires
method_place-requires c = has_method (graph_of c.args.self.now) c.args.i c.args.k c.requires

pub load_method-requires-clause-there : goal.load_method-requires-clause-there
load_method-requires-clause-there c =
    let h = has_method (graph_of c.args.self.now) c.args.i c.args.k c.requires in
    (h.0, subst (λ (b : List ℕ). IsMethodAt b c.method_place.result h.0) (sym c.as_bytes.ensures) (c.method_place.ensures.there h.0 h.1))

pub returns-clause-row : goal.returns-clause-row
returns-clause-row c = λ m h. c.load_method.ensures m (subst (λ (b : List ℕ). IsMethodAt b c.method_place.result m) (sym c.as_bytes.ensures) (c.method_place.ensures.there m h))

pub returns-clause-sites : goal.returns-clause-sites
returns-clause-sites c = sites_are (graph_of c.args.self.now) c.args.i c.args.k c.load_method.result c.requires (λ m h. c.load_method.ensures m (subst (λ (b : List ℕ). IsMethodAt b c.method_place.result m) (sym c.as_bytes.ensures) (c.method_place.ensures.there m h)))

pub returns-clause-below : goal.returns-clause-below
returns-clause-below c = method_below (graph_of c.args.self.now) c.tell_graph.ensures.graph c.args.i c.args.k c.load_method.result c.requires (λ m h. c.load_method.ensures m (subst (λ (b : List ℕ). IsMethodAt b c.method_place.result m) (sym c.as_bytes.ensures) (c.method_place.ensures.there m h)))
