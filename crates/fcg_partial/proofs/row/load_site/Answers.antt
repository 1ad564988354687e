use Rattle.std.proofs.Common.{refl, ap, ◌∙◌}
use Rattle.fcg_partial.proofs.RowParts.{site_parts}
use Rattle.fcg_partial.specs.Reading.{kind_of}
use Rattle.fcg_partial.proofs.row.load_site.Goals as goal

pub load_u2-requires : goal.load_u2-requires
load_u2-requires c = let p = (site_parts c.args.bytes.now c.args.at c.requires.there.0 c.requires.there.1) in (c.requires.there.0.pc, p.pc)

pub load_u1-requires : goal.load_u1-requires
load_u1-requires c = let p = (site_parts c.args.bytes.now c.args.at c.requires.there.0 c.requires.there.1) in (p.byte, p.byte_is)

pub load_u4-requires : goal.load_u4-requires
load_u4-requires c = let p = (site_parts c.args.bytes.now c.args.at c.requires.there.0 c.requires.there.1) in (c.requires.there.0.reference, p.reference)

pub returns : goal.returns
returns c = λ s is. (
    let p = site_parts c.args.bytes.now c.args.at s is in
    let byte = c.load_u1.ensures p.byte p.byte_is in
    let kind = c.kind_of.ensures ∙ ap kind_of byte ∙ p.kind in
    let told = rw kind at c.unwrap_or.ensures in
    rw (c.load_u2.ensures s.pc p.pc, told, c.load_u4.ensures s.reference p.reference) refl)
