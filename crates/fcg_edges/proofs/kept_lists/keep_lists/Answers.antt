use Rattle.std.proofs.Common.{rules, ◌≡◌, ◌+◌, ◌<◌, ◌++◌, ◌∷◌, [], ℕ, List, length, get_or, sym, ap, subst, ◌∙◌, arith}
use Rattle.std.specs.Prelude.{Bool, ◌||◌, nat_lt, All}
use Rattle.std.proofs.lemmas.List.Elements.{All-weaker}
use Rattle.fcg_order.specs.Links.{row}
use Rattle.fcg_edges.specs.Rows.{has}
use Rattle.fcg_edges.specs.Internal.Making.{AreMarkedBy, count_fresh}
use Rattle.fcg_edges.proofs.KeptLaws.{AreKeptTo, none_kept, one_kept}
use Rattle.fcg_edges.proofs.kept_lists.keep_lists.Goals as goal
use Rattle.fcg_edges.proofs.kept_lists.keep_lists.Goals.{then-fresh-gt0+in_ok-push, else-fresh-gt0}

pub loop-l-preserved : goal.loop-l-preserved
loop-l-preserved c =
    let lists = c.args.rows.now.lists in
    let turn = c.args.turn in
    let uses = c.args.uses.now in
    let old = c.args.marks.now in
    let marks = c.loop-l.marks in
    let new = c.mark_list-fresh.new.marks in
    let kept = c.loop-l.lists.items in
    let i = c.loop-l.l-index in
    let fresh = c.mark_list-fresh.result in
    let is : c.list-list.result.now ≡ row lists (get_or uses i 0) = c.list-list.ensures.value in
    let long = c.loop-l.invariant.marked.long in
    let same = c.requires.long in
    let under : All (λ b. b < length marks) c.list-list.result.now = All-weaker (λ b. b < c.args.rows.now.count) (λ b. b < length marks) (λ b l. omega (arith, l, long, same)) c.list-list.result.now c.list-list.ensures.list.below in
    let below : All (λ b. b < length marks) (row lists (get_or uses i 0)) = subst (λ (xs : List ℕ). All (λ b. b < length marks) xs) is under in
    let marked : AreMarkedBy turn (has (row lists (get_or uses i 0))) marks new = subst (λ (xs : List ℕ). AreMarkedBy turn (has xs) marks new) is c.mark_list-fresh.ensures.marked in
    let count : fresh ≡ count_fresh marks turn (row lists (get_or uses i 0)) = c.mark_list-fresh.ensures.fresh ∙ ap (λ (xs : List ℕ). count_fresh marks turn xs) is in
    elim c.if-fresh-gt0.branch [
      | then-fresh-gt0+in_ok-push w ↦
          let o : c.if-fresh-gt0.overlap ≡ (c.loop-l.overlap || nat_lt fresh (length (row lists (get_or uses i 0)))) = (w.overlap-is ∙ ap (λ (xs : List ℕ). c.loop-l.overlap || nat_lt fresh (length xs)) is) in
          let k : c.if-fresh-gt0.lists.items ≡ kept ++ get_or uses i 0 ∷ [] = search rules in
          subst (λ (o : Bool). AreKeptTo lists turn uses old new c.if-fresh-gt0.lists.items o (i + 1)) (sym o)
          (subst (λ (ks : List ℕ). AreKeptTo lists turn uses old new ks (c.loop-l.overlap || nat_lt fresh (length (row lists (get_or uses i 0)))) (i + 1)) (sym k)
          (one_kept lists turn uses old marks new kept c.loop-l.overlap i fresh c.loop-l-test.true c.requires.uses c.requires.unmarked below c.loop-l.invariant marked count))
      | else-fresh-gt0 w ↦
          let z : fresh ≡ 0 = omega arith in
          let k : c.if-fresh-gt0.lists.items ≡ kept = search rules in
          subst (λ (o : Bool). AreKeptTo lists turn uses old new c.if-fresh-gt0.lists.items o (i + 1)) (sym w.overlap-is)
          (subst (λ (ks : List ℕ). AreKeptTo lists turn uses old new ks c.loop-l.overlap (i + 1)) (sym k)
          (none_kept lists turn uses old marks new kept c.loop-l.overlap i fresh c.loop-l-test.true c.requires.uses c.requires.unmarked below c.loop-l.invariant marked count z))
    ]
