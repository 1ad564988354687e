use Rattle.std.proofs.Common.{◌+◌, ◌*◌, ℕ, length, ap, ◌∙◌}
use Rattle.fcg_partial.proofs.RowParts.{type_parts}
use Rattle.fcg_partial.proofs.row.find_fields.Goals as goal

pub load_u2-requires : goal.load_u2-requires
load_u2-requires c = let p = (type_parts c.args.bytes.now c.args.at c.requires.there.0 c.requires.there.1) in (length c.requires.there.0.interfaces, p.interfaces)

pub returns-clause-value : goal.returns-clause-value
returns-clause-value c = λ t is. (
    let p = type_parts c.args.bytes.now c.args.at t is in
    ap (λ (n : ℕ). c.args.at + 12 + 4 * n) (c.from.ensures ∙ c.load_u2.ensures (length t.interfaces) p.interfaces))
