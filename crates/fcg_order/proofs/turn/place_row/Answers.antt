use Rattle.std.proofs.Common.{rules, ◌≤◌, ◌<◌, length, get_or, sym, ap, ◌∙◌, arith}
use Rattle.std.proofs.lemmas.List.{length-set}
use Rattle.fcg_order.specs.Links.{row}
use Rattle.fcg_order.specs.Internal.Turn.{turned_from, turned_to, sizes_of}
use Rattle.fcg_order.proofs.TurnLaws.{number_below, step_start, step_below, place_step, placed_same, row_ends}
use Rattle.fcg_order.proofs.turn.place_row.Goals as goal

small : (c : goal.After-row_known-in-loop-number-1) → get_or c.row-number-items.result.now c.loop-number.number-index 0 < length c.loop-number.starts
small c =
    let b = number_below c.args.rows.now (length c.args.starts.now) c.args.x c.loop-number.number-index c.row-number-items.result.now c.row-number-items.ensures c.requires.rows c.loop-number-test.true in
    let m = c.loop-number.invariant.long in omega (arith, b, m)

pub bounds-starts-number : goal.bounds-starts-number
bounds-starts-number c =
    let b = number_below c.args.rows.now (length c.args.starts.now) c.args.x c.loop-number.number-index c.row-number-items.result.now c.row-number-items.ensures c.requires.rows c.loop-number-test.true in
    let m = c.loop-number.invariant.long in omega (arith, b, m)

pub overflow_sub-start : goal.overflow_sub-start
overflow_sub-start c =
    let b = number_below c.args.rows.now (length c.args.starts.now) c.args.x c.loop-number.number-index c.row-number-items.result.now c.row-number-items.ensures c.requires.rows c.loop-number-test.true in
    let m = c.loop-number.invariant.long in
    step_start c.args.rows.now c.args.x c.loop-number.number-index c.row-number-items.result.now c.row-number-items.ensures c.requires.there c.loop-number-test.true (c.requires.rows.rise c.args.x c.requires.there) c.loop-number.starts c.loop-number.targets
    (omega (arith, b, m)) c.loop-number.invariant.placed

pub bounds-starts-number-in-loop-number : goal.bounds-starts-number-in-loop-number
bounds-starts-number-in-loop-number c = small c

below : (c : goal.After-row_known-in-loop-number-1) → get_or c.loop-number.starts (get_or c.row-number-items.result.now c.loop-number.number-index 0) 0 ≤ length c.loop-number.targets
below c =
    step_below c.args.rows.now c.args.x c.loop-number.number-index c.row-number-items.result.now c.row-number-items.ensures c.requires.there c.loop-number-test.true (c.requires.rows.rise c.args.x c.requires.there) c.loop-number.starts c.loop-number.targets
    (small c) c.loop-number.invariant.placed

pub bounds-targets-start : goal.bounds-targets-start
bounds-targets-start c =
    let b = below c in
    let s = step_start c.args.rows.now c.args.x c.loop-number.number-index c.row-number-items.result.now c.row-number-items.ensures c.requires.there c.loop-number-test.true (c.requires.rows.rise c.args.x c.requires.there) c.loop-number.starts c.loop-number.targets
    (small c) c.loop-number.invariant.placed in
    omega (arith, b, s)

pub offset_bounds-targets-start : goal.offset_bounds-targets-start
offset_bounds-targets-start c = let b = below c in search rules

pub loop-number-preserved : goal.loop-number-preserved
loop-number-preserved c = record {
  long = length-set c.loop-number.starts _ _ ∙ c.loop-number.invariant.long;
  placed = place_step c.args.rows.now c.args.x c.loop-number.number-index c.row-number-items.result.now c.row-number-items.ensures c.requires.there c.loop-number-test.true (c.requires.rows.rise c.args.x c.requires.there) c.loop-number.starts c.loop-number.targets
      (small c) c.loop-number.invariant.placed;
}

pub returns-clause-placed : goal.returns-clause-placed
returns-clause-placed c =
    let rows = c.args.rows.now in
    let all : length (row rows c.args.x) ≤ c.loop-number.number-index = (let e = ap (λ xs. length xs) c.row-number-items.ensures in let t = c.loop-number-test.false in omega (arith, e)) in
    placed_same (sizes_of rows) (turned_to rows c.args.x c.loop-number.number-index) (turned_from rows c.args.x) c.loop-number.starts c.loop-number.targets
    (λ n. sym (row_ends rows c.args.x n c.loop-number.number-index c.requires.there all)) c.loop-number.invariant.placed
