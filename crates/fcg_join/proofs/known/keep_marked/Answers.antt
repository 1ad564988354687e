use Rattle.std.proofs.Common.{[], ◌∷◌, ◌++◌, get_or, sym, ap, ◌∙◌, cond}
use Rattle.std.proofs.lemmas.List.{append-nil}
use Rattle.fcg_join.specs.Winners.{marked}
use Rattle.fcg_join.specs.Internal.TypeHeads.{no_head}
use Rattle.fcg_join.proofs.HeadLaws.{kept_next}
use Rattle.fcg_join.proofs.known.keep_marked.Goals as goal
use Rattle.fcg_join.proofs.known.keep_marked.Goals.{then-marks-y+in_ok-push, else-marks-y}

pub loop-y-preserved : goal.loop-y-preserved
loop-y-preserved c =
    let heads = c.args.heads.now in
    let marks = c.args.marks.now in
    let old = c.loop-y.kept.items in
    let head = get_or heads c.loop-y.y no_head in
    let next = kept_next marks heads c.loop-y.y no_head old c.if-marks-y.kept.items (marked marks heads) c.loop-y-test.true c.requires in
    elim c.if-marks-y.branch [
      | then-marks-y+in_ok-push w ↦ next (ap (λ v. v.items) w.kept-is ∙ w.in_ok-push.ensures.items ∙ sym (ap (λ b. old ++ cond b (head ∷ []) []) w.if-marks-y.true)) c.loop-y.invariant
      | else-marks-y w ↦ next (ap (λ v. v.items) w.kept-is ∙ sym (append-nil old) ∙ sym (ap (λ b. old ++ cond b (head ∷ []) []) w.if-marks-y.false)) c.loop-y.invariant
    ]
