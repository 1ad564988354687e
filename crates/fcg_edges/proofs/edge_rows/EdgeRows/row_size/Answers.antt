use Rattle.std.proofs.Common.{◌≡◌, ℕ, List, length, sym, ap, subst, ◌∙◌, arith, take, get_or}
use Rattle.fcg_order.specs.Links.{row}
use Rattle.fcg_edges.specs.Rows.{Rows}
use Rattle.fcg_edges.specs.Internal.Tables.{IsRow, size_of}
use Rattle.fcg_edges.proofs.RowSizes.{size_below, size_part}
use Rattle.fcg_edges.proofs.edge_rows.EdgeRows.row_size.Goals as goal

pub overflow_add-size : goal.overflow_add-size
overflow_add-size c =
    let i = c.self.inside in
    let targets = c.args.targets.now in
    let uses = c.args.uses.now in
    let e = c.self.view_is in
    let given : IsRow c.args.self.now.count c.args.self.now.lists targets uses = record { rise = c.requires.rise; there = c.requires.there; apart = c.requires.apart; own = c.requires.own } in
    let q : IsRow i.count i.lists targets uses = subst (λ (r : Rows). IsRow r.count r.lists targets uses) (sym e) given in
    let size : c.loop-l.size ≡ size_of i.lists targets (take c.loop-l.l-index uses) = c.loop-l.invariant ∙ ap (λ (r : Rows). size_of r.lists targets (take c.loop-l.l-index uses)) (sym e) in
    let list : length c.row.result.now ≡ length (row i.lists (get_or uses c.loop-l.l-index 0)) = ap (λ (xs : List ℕ). length xs) c.row.ensures in
    let all = size_below i.count i.lists targets uses c.self.invariant.lists q in
    let part = size_part i.lists targets uses c.loop-l.l-index 0 c.loop-l-test.true in
    let few = c.self.invariant.few in
    omega (arith, size, list, all, part, few)
