use Rattle.std.proofs.Common.{rules, ◌≡◌, ◌+◌, ◌<◌, ℕ, List, length, get_or, sym, ap, subst, ◌∙◌}
use Rattle.fcg_partial.specs.Internal.StandingRows.{IsMethodAt}
use Rattle.fcg_partial.proofs.AccessLaws.{text_is, method_there}
use Rattle.fcg_partial.proofs.graph.PartialGraph.method_place.Goals as goal

pub index-requires : goal.index-requires
index-requires c =
    let lt = (method_there c.self.inside.bytes.items c.self.inside.index c.self.invariant c.args.self.now c.self.view_is c.args.i c.args.k 0 0 c.requires.0 c.requires.1).0 in
    search rules

pub index-requires-2 : goal.index-requires-2
index-requires-2 c =
    let lt = (method_there c.self.inside.bytes.items c.self.inside.index c.self.invariant c.args.self.now c.self.view_is c.args.i c.args.k 0 c.index.result.now c.requires.0 c.requires.1).1 in
    let first = c.index.ensures in
    let row = c.from.ensures in
    let here : c.index.result.now + c.from.result < length c.self.inside.index.places.methods.items = rw (first, row) lt in
    search rules

pub returns-clause-there : goal.returns-clause-there
returns-clause-there c = λ m h. (
    let z = method_there c.self.inside.bytes.items c.self.inside.index c.self.invariant c.args.self.now c.self.view_is c.args.i c.args.k c.index-2.result.now c.index.result.now m h in
    let place : get_or c.self.inside.index.places.methods.items (get_or c.self.inside.index.places.firsts.items c.args.i c.index.result.now + c.args.k) c.index-2.result.now ≡ c.index-2.result.now =
    ap (λ (n : ℕ). get_or c.self.inside.index.places.methods.items n c.index-2.result.now) (ap (λ (n : ℕ). n + c.args.k) (sym c.index.ensures) ∙ ap (λ (n : ℕ). c.index.result.now + n) (sym c.from.ensures)) ∙ sym c.index-2.ensures in
    subst (λ (b : List ℕ). IsMethodAt b c.index-2.result.now m) (text_is c.self.inside.bytes.items c.self.inside.index c.self.invariant c.args.self.now c.self.view_is) (subst (λ (n : ℕ). IsMethodAt c.self.inside.bytes.items n m) place z.2))
