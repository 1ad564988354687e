use Rattle.std.proofs.Common.{◌≡◌, ◌+◌, ℕ, List, ◌++◌, ◌∷◌, [], sym, ap, ◌∙◌, arith}
use Rattle.std.specs.List.{range_with_len}
use Rattle.fcg_join.proofs.TurnedRows.{range_more}
use Rattle.fcg_join.proofs.below.list_all.Goals as goal

pub loop-x-init : goal.loop-x-init
loop-x-init c = c.in_ok-numbers.ensures.items

pub loop-x-preserved : goal.loop-x-preserved
loop-x-preserved c =
    let e : c.loop-x.x ≡ 0 + c.loop-x.x = omega arith in
    c.in_ok-push.ensures.items ∙ ap (λ (xs : List ℕ). xs ++ c.loop-x.x ∷ []) c.loop-x.invariant
    ∙ ap (λ (x : ℕ). range_with_len 0 c.loop-x.x ++ x ∷ []) e ∙ sym (range_more 0 c.loop-x.x)

pub returns : goal.returns
returns c =
    let e : c.loop-x.x ≡ c.args.count = (let t = c.loop-x-test.false in let u = c.loop-x.auto.x-end in omega (arith, t, u)) in
    c.loop-x.invariant ∙ ap (range_with_len 0) e
