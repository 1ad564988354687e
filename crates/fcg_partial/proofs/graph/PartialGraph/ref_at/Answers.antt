use Rattle.std.proofs.Common.{ℕ, List, sym, subst}
use Rattle.fcg_partial.specs.Internal.StandingRows.{IsRefAt}
use Rattle.fcg_partial.specs.Views.{graph_of}
use Rattle.fcg_partial.proofs.RowLaws.{has_ref, ref_below}
use Rattle.fcg_partial.proofs.graph.PartialGraph.ref_at.Goals as goal

pub ref_place-requires : goal.ref_place-requires
ref_place-requires c = has_ref (graph_of c.args.self.now) c.args.r c.requires

pub load_ref-requires-clause-there : goal.load_ref-requires-clause-there
load_ref-requires-clause-there c =
    let h = has_ref (graph_of c.args.self.now) c.args.r c.requires in
    (h.0, subst (λ (b : List ℕ). IsRefAt b c.ref_place.result h.0) (sym c.as_bytes.ensures) (c.ref_place.ensures.there h.0 h.1))

pub returns-clause-below : goal.returns-clause-below
returns-clause-below c = ref_below (graph_of c.args.self.now) c.tell_graph.ensures.graph c.args.r c.load_ref.result c.requires (λ row h. c.load_ref.ensures row (subst (λ (b : List ℕ). IsRefAt b c.ref_place.result row) (sym c.as_bytes.ensures) (c.ref_place.ensures.there row h)))
