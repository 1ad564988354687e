use Rattle.std.proofs.Common.{length, refl}
use Rattle.fcg_partial.proofs.RowParts.{method_parts}
use Rattle.fcg_partial.proofs.row.load_method.Goals as goal

pub load_u4-requires : goal.load_u4-requires
load_u4-requires c = let p = (method_parts c.args.bytes.now c.args.at c.requires.there.0 c.requires.there.1) in (c.requires.there.0.name, p.name)

pub load_u4-requires-2 : goal.load_u4-requires-2
load_u4-requires-2 c = let p = (method_parts c.args.bytes.now c.args.at c.requires.there.0 c.requires.there.1) in (c.requires.there.0.desc, p.desc)

pub load_u2-requires : goal.load_u2-requires
load_u2-requires c = let p = (method_parts c.args.bytes.now c.args.at c.requires.there.0 c.requires.there.1) in (c.requires.there.0.flags, p.flags)

pub load_u4-requires-3 : goal.load_u4-requires-3
load_u4-requires-3 c = let p = (method_parts c.args.bytes.now c.args.at c.requires.there.0 c.requires.there.1) in (length c.requires.there.0.sites, p.count)

pub returns : goal.returns
returns c = λ m is. (
    let p = method_parts c.args.bytes.now c.args.at m is in
    rw (c.load_u4.ensures m.name p.name, c.load_u4-2.ensures m.desc p.desc, c.load_u2.ensures m.flags p.flags, c.load_u4-3.ensures (length m.sites) p.count) refl)
