use Rattle.std.proofs.Common.{◌≡◌, ℕ, ◌<◌, List, length, sym, subst}
use Rattle.fcg_views.specs.declared.view.View.{View}
use Rattle.fcg_partial.specs.Views.{graph_of}
use Rattle.fcg_partial.specs.Accessors.{HasInterface, type_in}
use Rattle.fcg_join.proofs.GraphRows.{interface_within, interface_is}
use Rattle.fcg_join.proofs.heads.load_interface.Goals as goal

pub interface_at-requires : goal.interface_at-requires
interface_at-requires c =
    let r = c.requires in
    subst (λ (vs : List View). c.args.j < length (type_in (graph_of vs) c.args.k).interfaces) (sym c.graph.ensures)
    (interface_within c.args.part.now c.args.k r.0 r.1 c.args.j r.2)

pub returns-clause-value : goal.returns-clause-value
returns-clause-value c = λ v n h e. interface_is c.args.part.now c.args.k v h c.args.j n e c.interface_at.result
    (subst (λ (vs : List View). (m : ℕ) → HasInterface (graph_of vs) c.args.k c.args.j m → c.interface_at.result ≡ m) c.graph.ensures c.interface_at.ensures.row)
