use Rattle.std.proofs.Common.{◌<◌, length, refl, sym, subst, inl, inr}
use Rattle.fcg_partial.specs.declared.row.MethodRow.{MethodRow}
use Rattle.fcg_partial.specs.Views.{graph_of}
use Rattle.fcg_partial.proofs.ShownLaws.{method_used}
use Rattle.fcg_partial.proofs.RowLaws.{below_methods}
use Rattle.fcg_partial.proofs.shown.make_method.Goals as goal

pub pick_name-requires : goal.pick_name-requires
pick_name-requires c =
    let h = c.requires.there in
    subst (λ (r : MethodRow). r.name < length c.args.names.now) (sym (c.method_at-row.ensures.row h.0 h.1)) (method_used (graph_of c.args.graph.now) c.args.names.now c.requires.names c.args.i c.args.k h.0 h.1 h.0.name (inl refl))

pub pick_name-requires-2 : goal.pick_name-requires-2
pick_name-requires-2 c =
    let h = c.requires.there in
    subst (λ (r : MethodRow). r.desc < length c.args.names.now) (sym (c.method_at-row.ensures.row h.0 h.1)) (method_used (graph_of c.args.graph.now) c.args.names.now c.requires.names c.args.i c.args.k h.0 h.1 h.0.desc (inr (inl refl)))

pub method_at-row-requires : goal.method_at-row-requires
method_at-row-requires c = below_methods (graph_of c.args.graph.now) c.args.i c.args.k c.requires.there
