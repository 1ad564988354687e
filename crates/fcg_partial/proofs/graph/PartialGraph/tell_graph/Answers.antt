use Rattle.std.proofs.Common.{ℕ, List, length, subst, ap, arith}
use Rattle.std.specs.Prelude.{All}
use Rattle.fcg_views.specs.Valid.{IsValid}
use Rattle.fcg_partial.proofs.AccessLaws.{well_formed, text_is}
use Rattle.fcg_partial.proofs.ViewLaws.{views_back}
use Rattle.fcg_partial.proofs.ValidLaws.{valid_views}
use Rattle.fcg_partial.proofs.SizeLaws.{has_at_most}
use Rattle.fcg_partial.specs.Views.{graph_of}
use Rattle.fcg_partial.proofs.graph.PartialGraph.tell_graph.Goals as goal

pub returns-clause-graph : goal.returns-clause-graph
returns-clause-graph c = well_formed c.self.inside.bytes.items c.self.inside.index c.self.invariant c.args.self.now c.self.view_is

pub returns-clause-valid : goal.returns-clause-valid
returns-clause-valid c =
    let is = well_formed c.self.inside.bytes.items c.self.inside.index c.self.invariant c.args.self.now c.self.view_is in
    subst (All IsValid) (views_back c.args.self.now) (valid_views (graph_of c.args.self.now) is)

pub returns-clause-fits : goal.returns-clause-fits
returns-clause-fits c =
    let few = (has_at_most c.args.self.now).mentions in
    let long = ap (λ (l : List ℕ). length l) (text_is c.self.inside.bytes.items c.self.inside.index c.self.invariant c.args.self.now c.self.view_is) in
    let small = c.self.invariant.small in
    omega arith

pub returns-clause-few : goal.returns-clause-few
returns-clause-few c = has_at_most c.args.self.now
