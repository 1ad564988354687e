use Rattle.std.specs.Prelude.{IsTrue, ◌↔◌}
use Rattle.fcg_views.specs.declared.view.View.{View}
use Rattle.fcg_partial.specs.Reading.{views_in}
use Rattle.std.proofs.Common.{rules, ◌≡◌, List, subst}
use Rattle.fcg_partial.proofs.KeptLaws.{kept_same}
use Rattle.fcg_partial.proofs.graph.PartialGraph.same.Goals as goal

pub returns : goal.returns
returns c =
    let k = kept_same c.self.inside.bytes.items c.other.inside.bytes.items c.self.inside.index c.other.inside.index c.self.invariant c.other.invariant c.eq.result (search rules) in
    subst (λ (v : List View). IsTrue c.eq.result ↔ (v ≡ c.args.other.now)) c.self.view_is (subst (λ (w : List View). IsTrue c.eq.result ↔ (views_in c.self.inside.bytes.items ≡ w)) c.other.view_is k)
