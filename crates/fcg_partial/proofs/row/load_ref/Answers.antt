use Rattle.std.proofs.Common.{refl}
use Rattle.fcg_partial.proofs.RowParts.{ref_parts}
use Rattle.fcg_partial.specs.Graph.{number_at}
use Rattle.fcg_partial.proofs.row.load_ref.Goals as goal

pub load_u4-requires : goal.load_u4-requires
load_u4-requires c = let p = (ref_parts c.args.bytes.now c.args.at c.requires.there.0 c.requires.there.1) in (number_at 0 c.requires.there.0, p.owner)

pub load_u1-requires : goal.load_u1-requires
load_u1-requires c = let p = (ref_parts c.args.bytes.now c.args.at c.requires.there.0 c.requires.there.1) in (number_at 1 c.requires.there.0, p.interface)

pub load_u4-requires-2 : goal.load_u4-requires-2
load_u4-requires-2 c = let p = (ref_parts c.args.bytes.now c.args.at c.requires.there.0 c.requires.there.1) in (number_at 2 c.requires.there.0, p.name)

pub load_u4-requires-3 : goal.load_u4-requires-3
load_u4-requires-3 c = let p = (ref_parts c.args.bytes.now c.args.at c.requires.there.0 c.requires.there.1) in (number_at 3 c.requires.there.0, p.desc)

pub returns : goal.returns
returns c = λ row is. (
    let p = ref_parts c.args.bytes.now c.args.at row is in
    rw (c.load_u4.ensures (number_at 0 row) p.owner, c.load_u1.ensures (number_at 1 row) p.interface, c.load_u4-2.ensures (number_at 2 row) p.name, c.load_u4-3.ensures (number_at 3 row) p.desc) refl)
