use Rattle.std.proofs.Common.{ℕ, ◌<◌, [], ◌∷◌, ◌++◌, ap, subst, ◌∙◌, arith}
use Rattle.fcg_join.specs.Parts.{placed_view}
use Rattle.fcg_join.specs.Internal.TypeHeads.{head_of, heads_in}
use Rattle.fcg_join.proofs.CollectedLaws.{collected_next, collected_all}
use Rattle.fcg_join.proofs.GraphRows.{item}
use Rattle.fcg_join.proofs.heads.push_heads.Goals as goal

pub loop-k-preserved : goal.loop-k-preserved
loop-k-preserved c = λ names e. (
    let p = c.args.part.now in
    let lt = subst (λ (n : ℕ). c.loop-k.k < n) c.count_types-k-end.ensures c.loop-k-test.true in
    let v = item p.views c.loop-k.k lt in
    let h = c.make_head.ensures names v.0 e v.1 in
    collected_next (λ k v. head_of names c.args.i k (placed_view p v) ∷ []) p.views c.loop-k.k v.0 c.loop-k.heads.items c.push.new.self.items (c.args.heads.now.items ++ heads_in names c.args.i p) lt v.2
    (c.in_ok-push.ensures.items ∙ ap (λ x. c.loop-k.heads.items ++ x ∷ []) h) (c.loop-k.invariant names e))

pub returns : goal.returns
returns c = λ names e. (
    let p = c.args.part.now in
    collected_all (λ k v. head_of names c.args.i k (placed_view p v) ∷ []) p.views c.loop-k.k c.loop-k.heads.items (c.args.heads.now.items ++ heads_in names c.args.i p)
    (let a = c.loop-k-test.false in let b = c.count_types-k-end.ensures in omega arith) (c.loop-k.invariant names e))
