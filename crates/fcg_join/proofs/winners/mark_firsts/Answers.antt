use Rattle.std.proofs.Common.{◌≡◌, ◌+◌, ◌<◌, List, length, get_or, set, sym, ap, subst, ◌∙◌, arith}
use Rattle.std.specs.Prelude.{Bool, true, false, not}
use Rattle.std.proofs.lemmas.List.{get_or_default}
use Rattle.fcg_join.proofs.SeenNumbers.{AreSeen, seen_more}
use Rattle.fcg_join.proofs.winners.mark_firsts.Goals as goal

pub loop-number-preserved : goal.loop-number-preserved
loop-number-preserved c =
    let i = c.loop-number.number-index in
    let numbers = c.args.numbers.now in
    let seen = c.loop-number.seen.items in
    let small : get_or numbers i 0 < c.args.count = c.requires i 0 c.loop-number-test.true in
    let inside : get_or numbers i 0 < length seen = (let m = c.loop-number.invariant.long in omega arith) in
    let e : not c.index.result.now ≡ not (get_or seen (get_or numbers i 0) false) = ap not (c.index.ensures ∙ get_or_default seen (get_or numbers i 0) c.index.result.now false inside) in
    let t = seen_more numbers seen c.loop-number.marks.items c.args.count i 0 (not c.index.result.now) c.loop-number-test.true small c.loop-number.invariant e in
    subst (λ (ms : List Bool). AreSeen numbers (set seen (get_or numbers i 0) true) ms c.args.count (i + 1)) (sym c.in_ok-push.ensures.items) t
