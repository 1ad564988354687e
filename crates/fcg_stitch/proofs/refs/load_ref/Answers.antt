use Rattle.std.proofs.Common.{◌≡◌, ℕ, ◌<◌, List, length, sym, subst}
use Rattle.fcg_views.specs.declared.view.View.{View}
use Rattle.fcg_partial.specs.Views.{graph_of}
use Rattle.fcg_partial.specs.Accessors.{HasRef, row_of_ref}
use Rattle.fcg_stitch.proofs.ReferenceLaws.{ref_within, ref_is}
use Rattle.fcg_stitch.proofs.refs.load_ref.Goals as goal

pub ref_at-requires : goal.ref_at-requires
ref_at-requires c = subst (λ (vs : List View). c.args.r < length (graph_of vs).refs) (sym c.graph.ensures) (ref_within c.args.part.now c.args.r c.requires.0 c.requires.1)

pub returns : goal.returns
returns c = λ reference is. ref_is c.args.part.now c.args.r reference is c.ref_at.result
    (subst (λ (vs : List View). (s : List ℕ) → HasRef (graph_of vs) c.args.r s → c.ref_at.result ≡ row_of_ref s) c.graph.ensures c.ref_at.ensures.row)
