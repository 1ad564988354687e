use Rattle.std.proofs.Common.{rules, ℕ, List, sym, subst}
use Rattle.fcg_partial.specs.Internal.StandingRows.{IsTypeAt}
use Rattle.fcg_partial.proofs.AccessLaws.{text_is, type_there}
use Rattle.fcg_partial.proofs.graph.PartialGraph.type_place.Goals as goal

pub index-requires : goal.index-requires
index-requires c =
    let lt = (type_there c.self.inside.bytes.items c.self.inside.index c.self.invariant c.args.self.now c.self.view_is c.args.i 0 c.requires.0 c.requires.1).0 in
    search rules

pub returns-clause-there : goal.returns-clause-there
returns-clause-there c = λ t h. (
    let z = type_there c.self.inside.bytes.items c.self.inside.index c.self.invariant c.args.self.now c.self.view_is c.args.i c.index.result.now t h in
    subst (λ (b : List ℕ). IsTypeAt b c.index.result.now t) (text_is c.self.inside.bytes.items c.self.inside.index c.self.invariant c.args.self.now c.self.view_is) (subst (λ (n : ℕ). IsTypeAt c.self.inside.bytes.items n t) (sym c.index.ensures) z.1))
