use Rattle.std.proofs.Common.{◌<◌, length, refl, sym, subst, inl, inr}
use Rattle.fcg_partial.specs.declared.row.RefRow.{RefRow}
use Rattle.fcg_partial.specs.Graph.{number_at}
use Rattle.fcg_partial.specs.Views.{graph_of}
use Rattle.fcg_partial.proofs.ShownLaws.{ref_used}
use Rattle.fcg_partial.proofs.RowLaws.{below_refs}
use Rattle.fcg_partial.proofs.shown.make_ref.Goals as goal

pub pick_name-requires : goal.pick_name-requires
pick_name-requires c =
    let h = c.requires.there in
    subst (λ (r : RefRow). r.owner < length c.args.names.now) (sym (c.ref_at-row.ensures.row h.0 h.1)) (ref_used (graph_of c.args.graph.now) c.args.names.now c.requires.names c.args.r h.0 h.1 (number_at 0 h.0) (inl refl))

pub pick_name-requires-2 : goal.pick_name-requires-2
pick_name-requires-2 c =
    let h = c.requires.there in
    subst (λ (r : RefRow). r.name < length c.args.names.now) (sym (c.ref_at-row.ensures.row h.0 h.1)) (ref_used (graph_of c.args.graph.now) c.args.names.now c.requires.names c.args.r h.0 h.1 (number_at 2 h.0) (inr (inl refl)))

pub pick_name-requires-3 : goal.pick_name-requires-3
pick_name-requires-3 c =
    let h = c.requires.there in
    subst (λ (r : RefRow). r.desc < length c.args.names.now) (sym (c.ref_at-row.ensures.row h.0 h.1)) (ref_used (graph_of c.args.graph.now) c.args.names.now c.requires.names c.args.r h.0 h.1 (number_at 3 h.0) (inr (inr (inl refl))))

pub ref_at-row-requires : goal.ref_at-row-requires
ref_at-row-requires c = below_refs (graph_of c.args.graph.now) c.args.r c.requires.there
