use Rattle.std.proofs.Common.{◌≡◌, ℕ, List, length, sym, subst}
use Rattle.std.specs.Prelude.{Ok}
use Rattle.fcg_partial.specs.Fault.{u4_at}
use Rattle.fcg_partial.specs.Views.{graph_of}
use Rattle.fcg_partial.proofs.AccessLaws.{ref_many}
use Rattle.fcg_partial.proofs.graph.PartialGraph.ref_count.Goals as goal

pub load_u4-requires : goal.load_u4-requires
load_u4-requires c = (length (graph_of c.args.self.now).refs, subst (λ (b : List ℕ). u4_at b c.self.inside.index.refs ≡ Ok (length (graph_of c.args.self.now).refs)) (sym c.as_slice.ensures.value) (ref_many c.self.inside.bytes.items c.self.inside.index c.self.invariant c.args.self.now c.self.view_is))

pub returns : goal.returns
returns c = c.load_u4.ensures (length (graph_of c.args.self.now).refs) (subst (λ (b : List ℕ). u4_at b c.self.inside.index.refs ≡ Ok (length (graph_of c.args.self.now).refs)) (sym c.as_slice.ensures.value) (ref_many c.self.inside.bytes.items c.self.inside.index c.self.invariant c.args.self.now c.self.view_is))
