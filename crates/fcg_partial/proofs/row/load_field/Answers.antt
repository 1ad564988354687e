use Rattle.std.proofs.Common.{refl}
use Rattle.fcg_partial.proofs.RowParts.{field_parts}
use Rattle.fcg_partial.proofs.row.load_field.Goals as goal

pub load_u4-requires : goal.load_u4-requires
load_u4-requires c = let p = (field_parts c.args.bytes.now c.args.at c.requires.there.0 c.requires.there.1) in (c.requires.there.0.name, p.name)

pub load_u4-requires-2 : goal.load_u4-requires-2
load_u4-requires-2 c = let p = (field_parts c.args.bytes.now c.args.at c.requires.there.0 c.requires.there.1) in (c.requires.there.0.desc, p.desc)

pub load_u2-requires : goal.load_u2-requires
load_u2-requires c = let p = (field_parts c.args.bytes.now c.args.at c.requires.there.0 c.requires.there.1) in (c.requires.there.0.flags, p.flags)

pub returns : goal.returns
returns c = λ f is. (
    let p = field_parts c.args.bytes.now c.args.at f is in
    rw (c.load_u4.ensures f.name p.name, c.load_u4-2.ensures f.desc p.desc, c.load_u2.ensures f.flags p.flags) refl)
