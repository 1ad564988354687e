use Rattle.std.proofs.Common.{◌+◌, ◌*◌, ℕ, List, subst, arith}
use Rattle.fcg_partial.specs.Internal.StandingRows.{IsRefAt}
use Rattle.fcg_partial.proofs.AccessLaws.{text_is, ref_there, refs_small}
use Rattle.fcg_partial.proofs.graph.PartialGraph.ref_place.Goals as goal

pub overflow_add-result : goal.overflow_add-result
overflow_add-result c = let small = refs_small c.self.inside.bytes.items c.self.inside.index c.self.invariant c.args.self.now c.self.view_is in let few = c.ranges.r.fits in omega arith

pub overflow_add-result-2 : goal.overflow_add-result-2
overflow_add-result-2 c = let small = refs_small c.self.inside.bytes.items c.self.inside.index c.self.invariant c.args.self.now c.self.view_is in let few = c.ranges.r.fits in omega arith

pub returns-clause-there : goal.returns-clause-there
returns-clause-there c = λ row h. subst (λ (b : List ℕ). IsRefAt b (c.self.inside.index.refs + 4 + 13 * c.args.r) row) (text_is c.self.inside.bytes.items c.self.inside.index c.self.invariant c.args.self.now c.self.view_is) (ref_there c.self.inside.bytes.items c.self.inside.index c.self.invariant c.args.self.now c.self.view_is c.args.r row h)

pub returns-clause-small : goal.returns-clause-small
returns-clause-small c = let small = refs_small c.self.inside.bytes.items c.self.inside.index c.self.invariant c.args.self.now c.self.view_is in let few = c.ranges.r.fits in omega arith
