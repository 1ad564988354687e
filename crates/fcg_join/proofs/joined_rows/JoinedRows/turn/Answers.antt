use Rattle.std.proofs.Common.{ℕ, List, length, sym, ap, subst, ◌∙◌, arith}
use Rattle.std.proofs.lemmas.Result.{IfOk-weaker}
use Rattle.fcg_order.specs.Turn.{HaveRising, AreTurned}
use Rattle.fcg_join.specs.Internal.Mentions.{AreTurnedRows}
use Rattle.fcg_join.proofs.TurnedRows.{many_rows, have_rising, turned_rows}
use Rattle.fcg_join.proofs.joined_rows.JoinedRows.turn.Goals as goal

pub turn_rows-requires-clause-few : goal.turn_rows-requires-clause-few
turn_rows-requires-clause-few c =
    let e = ap (λ rs. length rs) c.in_ok-rows.ensures in
    let m = many_rows c.args.self.now in
    let f = c.requires.few in omega (arith, e, m, f)

pub turn_rows-requires-clause-rows : goal.turn_rows-requires-clause-rows
turn_rows-requires-clause-rows c =
    subst (λ (rs : List (List ℕ)). HaveRising rs c.args.count) (sym c.in_ok-rows.ensures) (have_rising c.args.self.now c.args.count c.requires.below c.requires.rise)

pub returns : goal.returns
returns c =
    IfOk-weaker c.turn_rows.result (AreTurned c.in_ok-rows.rows c.args.count) (AreTurnedRows c.args.self.now c.args.count)
    (λ t h. turned_rows c.args.self.now c.args.count t (subst (λ (rs : List (List ℕ)). AreTurned rs c.args.count t) c.in_ok-rows.ensures h)) c.turn_rows.ensures
