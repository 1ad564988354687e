use Rattle.std.proofs.Common.{◌<◌, length, refl, sym, subst, inl}
use Rattle.std.specs.Prelude.{IfSome}
use Rattle.fcg_partial.specs.declared.row.TypeRow.{TypeRow}
use Rattle.fcg_partial.specs.Views.{graph_of}
use Rattle.fcg_partial.proofs.ShownLaws.{type_used, super_used}
use Rattle.fcg_partial.proofs.RowLaws.{below_types}
use Rattle.fcg_partial.proofs.shown.make_view.Goals as goal

pub pick_name-requires : goal.pick_name-requires
pick_name-requires c =
    let h = c.requires.there in
    subst (λ (r : TypeRow). r.name < length c.args.names.now) (sym (c.type_at-row.ensures.row h.0 h.1)) (type_used (graph_of c.args.graph.now) c.args.names.now c.requires.names c.args.i h.0 h.1 h.0.name (inl refl))

pub pick_super-requires : goal.pick_super-requires
pick_super-requires c =
    let h = c.requires.there in
    subst (λ (r : TypeRow). IfSome r.superclass (λ n. n < length c.args.names.now)) (sym (c.type_at-row.ensures.row h.0 h.1)) (super_used (graph_of c.args.graph.now) c.args.names.now c.requires.names c.args.i h.0 h.1)

pub type_at-row-requires : goal.type_at-row-requires
type_at-row-requires c = below_types (graph_of c.args.graph.now) c.args.i c.requires.there
