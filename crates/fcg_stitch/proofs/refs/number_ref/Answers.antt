use Rattle.std.proofs.Common.{◌∙◌}
use Rattle.fcg_stitch.proofs.ReferenceLaws.{own_part, own_reference}
use Rattle.fcg_stitch.proofs.refs.number_ref.Goals as goal

pub load_ref-row-requires : goal.load_ref-row-requires
load_ref-row-requires c = (
  c.requires.0,
  own_reference c.args.joined.now c.as_slice.result.now c.args.part c.args.r c.requires.0 (c.as_slice.ensures ∙ c.parts.ensures) c.requires.1 c.index-as_slice-part.result c.index-as_slice-part.is,
)

pub returns-clause-value : goal.returns-clause-value
returns-clause-value c = λ reference a. (
    let parts = c.args.joined.now in
    let items = c.as_slice.result.now in
    let same = c.as_slice.ensures ∙ c.parts.ensures in
    let p = c.index-as_slice-part.result in
    let there = own_part parts items c.args.part c.args.r reference same a p c.index-as_slice-part.is in
    let row = c.load_ref-row.ensures reference (own_reference parts items c.args.part c.args.r reference same a p c.index-as_slice-part.is) in
    record {
      owner = c.part_name.ensures.value p there reference.owner row.owner;
      kind = row.kind;
      name = c.part_name-2.ensures.value p there reference.name row.name;
      desc = c.part_name-3.ensures.value p there reference.desc row.desc;
    })
