use Rattle.std.proofs.Common.{length, List, ℕ, sym, ap, subst, arith}
use Rattle.fcg_order.specs.Turn.{AreTurned}
use Rattle.fcg_order.specs.Internal.Turn.{turned_from, sizes_of, ArePlaced}
use Rattle.fcg_order.proofs.TurnLaws.{wider, are_starts, are_turned}
use Rattle.fcg_order.proofs.turn.turn_rows.Goals as goal

pub place_row-requires-clause-rows : goal.place_row-requires-clause-rows
place_row-requires-clause-rows c =
    let e = ap (λ xs. length xs) c.deref_mut.ensures.value in
    let m = c.loop-x.invariant.long in
    wider c.args.rows.now c.args.count _ (omega (arith, e, m)) c.requires.rows

pub from_starts-requires : goal.from_starts-requires
from_starts-requires c =
    are_starts c.args.rows.now c.args.count c.requires.rows c.loop-x.starts.items c.loop-x.targets.items c.loop-x.invariant.long
    (subst (λ (x : ℕ). ArePlaced (sizes_of c.args.rows.now) (turned_from c.args.rows.now x) c.loop-x.starts.items c.loop-x.targets.items) (omega (arith, c.loop-x-test.false)) c.loop-x.invariant.placed)

pub returns : goal.returns
returns c =
    subst (λ (rs : List (List ℕ)). AreTurned c.args.rows.now c.args.count rs) (sym c.from_starts.ensures)
    (are_turned c.args.rows.now c.args.count c.requires.rows c.loop-x.starts.items c.loop-x.targets.items c.loop-x.invariant.long
    (subst (λ (x : ℕ). ArePlaced (sizes_of c.args.rows.now) (turned_from c.args.rows.now x) c.loop-x.starts.items c.loop-x.targets.items) (omega (arith, c.loop-x-test.false)) c.loop-x.invariant.placed))
