use Rattle.std.proofs.Common.{◌<◌, ℕ, List, length, get_or, sym, subst, arith}
use Rattle.fcg_order.proofs.FillLaws.{row_below}
use Rattle.fcg_order.proofs.fill.has_or_meets_mark.Goals as goal

pub any_marked-requires : goal.any_marked-requires
any_marked-requires c = λ k d l. (
    let b = row_below c.args.links.now c.requires.within c.args.node k d (subst (λ (xs : List ℕ). k < length xs) c.row.ensures l) in
    let m = c.requires.long in
    subst (λ (xs : List ℕ). get_or xs k d < length c.args.marks.now) (sym c.row.ensures) (omega arith))
