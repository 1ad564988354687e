use Rattle.std.proofs.Common.{◌<◌, length, refl, sym, ap, subst, inl, inr}
use Rattle.fcg_partial.specs.declared.row.FieldRow.{FieldRow}
use Rattle.fcg_partial.specs.Views.{graph_of}
use Rattle.fcg_partial.proofs.ShownLaws.{field_used, named}
use Rattle.fcg_partial.proofs.RowLaws.{below_fields}
use Rattle.fcg_partial.proofs.shown.make_field.Goals as goal

pub pick_name-requires : goal.pick_name-requires
pick_name-requires c =
    let h = c.requires.there in
    subst (λ (r : FieldRow). r.name < length c.args.names.now) (sym (c.field_at-row.ensures.row h.0 h.1)) (field_used (graph_of c.args.graph.now) c.args.names.now c.requires.names c.args.i c.args.j h.0 h.1 h.0.name (inl refl))

pub pick_name-requires-2 : goal.pick_name-requires-2
pick_name-requires-2 c =
    let h = c.requires.there in
    subst (λ (r : FieldRow). r.desc < length c.args.names.now) (sym (c.field_at-row.ensures.row h.0 h.1)) (field_used (graph_of c.args.graph.now) c.args.names.now c.requires.names c.args.i c.args.j h.0 h.1 h.0.desc (inr (inl refl)))

pub returns : goal.returns
returns c = λ f h. (
    let g = graph_of c.args.graph.now in
    let is = c.field_at-row.ensures.row f h in
    let names_are = c.requires.names.names_are in
    let name = named c.args.names.now g.names names_are c.field_at-row.result.name f.name (ap (λ (r : FieldRow). r.name) is) c.in_ok-pick_name.field-0 c.in_ok-pick_name.ensures in
    let desc = named c.args.names.now g.names names_are c.field_at-row.result.desc f.desc (ap (λ (r : FieldRow). r.desc) is) c.in_ok-pick_name-2.field-0 c.in_ok-pick_name-2.ensures in
    let flags = ap (λ (r : FieldRow). r.flags) is in
    rw (name, desc, flags) refl)

pub field_at-row-requires : goal.field_at-row-requires
field_at-row-requires c = below_fields (graph_of c.args.graph.now) c.args.i c.args.j c.requires.there
