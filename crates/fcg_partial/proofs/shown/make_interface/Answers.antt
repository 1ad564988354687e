use Rattle.std.proofs.Common.{◌≡◌, ◌<◌, ℕ, List, length, sym, subst}
use Rattle.std.specs.Prelude.{IfOk}
use Rattle.fcg_partial.specs.Views.{name_in, graph_of}
use Rattle.fcg_partial.proofs.ShownLaws.{interface_used}
use Rattle.fcg_partial.proofs.RowLaws.{below_interfaces}
use Rattle.fcg_partial.proofs.shown.make_interface.Goals as goal

pub pick_name-requires : goal.pick_name-requires
pick_name-requires c =
    let h = c.requires.there in
    subst (λ (n : ℕ). n < length c.args.names.now) (sym (c.interface_at.ensures.row h.0 h.1)) (interface_used (graph_of c.args.graph.now) c.args.names.now c.requires.names c.args.i c.args.j h.0 h.1)

pub returns : goal.returns
returns c = λ n h. (
    subst (λ (l : List (List ℕ)). IfOk c.pick_name.result (λ name. name ≡ name_in l n)) c.requires.names.names_are
    (subst (λ (k : ℕ). IfOk c.pick_name.result (λ name. name ≡ name_in c.args.names.now k)) (c.interface_at.ensures.row n h) c.pick_name.ensures))

pub interface_at-requires : goal.interface_at-requires
interface_at-requires c = below_interfaces (graph_of c.args.graph.now) c.args.i c.args.j c.requires.there
