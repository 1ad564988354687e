use Rattle.std.proofs.Common.{◌≤◌, length, sym, ap, ◌∙◌, arith}
use Rattle.std.proofs.lemmas.List.{length-set}
use Rattle.fcg_order.specs.Links.{row}
use Rattle.fcg_order.specs.Internal.Turn.{turned_from, turned_to}
use Rattle.fcg_order.proofs.TurnLaws.{number_below, count_step, count_fits, counted_same, row_ends}
use Rattle.fcg_order.proofs.turn.count_row.Goals as goal

pub bounds-counts-number : goal.bounds-counts-number
bounds-counts-number c =
    let b = number_below c.args.rows.now (length c.args.counts.now) c.args.x c.loop-number.number-index c.row-number-items.result.now c.row-number-items.ensures c.requires.rows c.loop-number-test.true in
    let m = c.loop-number.invariant.long in omega (arith, b)

pub bounds-counts-number-in-loop-number : goal.bounds-counts-number-in-loop-number
bounds-counts-number-in-loop-number c =
    let b = number_below c.args.rows.now (length c.args.counts.now) c.args.x c.loop-number.number-index c.row-number-items.result.now c.row-number-items.ensures c.requires.rows c.loop-number-test.true in
    let m = c.loop-number.invariant.long in omega (arith, b)

pub overflow_add-counts : goal.overflow_add-counts
overflow_add-counts c =
    let f = count_fits c.args.rows.now c.args.x c.loop-number.number-index c.row-number-items.result.now c.row-number-items.ensures c.requires.there c.loop-number-test.true c.requires.few c.loop-number.counts c.loop-number.invariant.counted in
    omega (arith, f)

pub loop-number-preserved : goal.loop-number-preserved
loop-number-preserved c =
    let b = number_below c.args.rows.now (length c.args.counts.now) c.args.x c.loop-number.number-index c.row-number-items.result.now c.row-number-items.ensures c.requires.rows c.loop-number-test.true in
    let m = c.loop-number.invariant.long in record {
      long = length-set c.loop-number.counts _ _ ∙ m;
      counted = count_step c.args.rows.now c.args.x c.loop-number.number-index c.row-number-items.result.now c.row-number-items.ensures c.requires.there c.loop-number-test.true (c.requires.rows.rise c.args.x c.requires.there) c.loop-number.counts (omega (arith, b)) c.loop-number.invariant.counted;
    }

pub returns-clause-counted : goal.returns-clause-counted
returns-clause-counted c =
    let rows = c.args.rows.now in
    let all : length (row rows c.args.x) ≤ c.loop-number.number-index = (let e = ap (λ xs. length xs) c.row-number-items.ensures in let t = c.loop-number-test.false in omega (arith, e)) in
    counted_same (turned_to rows c.args.x c.loop-number.number-index) (turned_from rows c.args.x) c.loop-number.counts
    (λ n. sym (row_ends rows c.args.x n c.loop-number.number-index c.requires.there all)) c.loop-number.invariant.counted
