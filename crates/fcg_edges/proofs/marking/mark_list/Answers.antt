use Rattle.std.proofs.Common.{rules, ◌+◌, ℕ, List, sym, subst}
use Rattle.fcg_edges.proofs.MarkLaws.{AreMarkedTo, next_fresh, next_met, fresh_bound}
use Rattle.fcg_edges.proofs.marking.mark_list.Goals as goal
use Rattle.fcg_edges.proofs.marking.mark_list.Goals.{then-marks-b, else-marks-b}

pub overflow_add-fresh : goal.overflow_add-fresh
overflow_add-fresh c =
    let b = fresh_bound c.args.turn c.args.list.now c.args.marks.now c.loop-b.marks c.loop-b.fresh c.loop-b.b-index c.loop-b.invariant in
    search rules

pub loop-b-preserved : goal.loop-b-preserved
loop-b-preserved c =
    let turn = c.args.turn in
    let list = c.args.list.now in
    let old = c.args.marks.now in
    let i = c.loop-b.b-index in
    elim c.if-marks-b.branch [
      | then-marks-b w ↦
          subst (λ (n : ℕ). AreMarkedTo turn list old c.if-marks-b.marks n (i + 1)) (sym w.fresh-is)
          (subst (λ (ms : List ℕ). AreMarkedTo turn list old ms (c.loop-b.fresh + 1) (i + 1)) (sym w.marks-is)
          (next_fresh turn list old c.loop-b.marks c.loop-b.fresh i c.requires.rise c.requires.below c.loop-b-test.true c.loop-b.invariant (w.if-marks-b.true)))
      | else-marks-b w ↦
          subst (λ (n : ℕ). AreMarkedTo turn list old c.if-marks-b.marks n (i + 1)) (sym w.fresh-is)
          (subst (λ (ms : List ℕ). AreMarkedTo turn list old ms c.loop-b.fresh (i + 1)) (sym w.marks-is)
          (next_met turn list old c.loop-b.marks c.loop-b.fresh i c.requires.rise c.requires.below c.loop-b-test.true c.loop-b.invariant (w.if-marks-b.false)))
    ]
