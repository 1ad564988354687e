use Rattle.std.proofs.Common.{◌≡◌, ℕ, ◌+◌, ◌++◌, ◌∷◌, [], List, sym, ap, ◌∙◌, arith}
use Rattle.std.specs.Prelude.{slice_get}
use Rattle.fcg_analysis.specs.Edges.{edges}
use Rattle.fcg_join.specs.Parts.{types_of}
use Rattle.fcg_answer.specs.Answer.{page}
use Rattle.fcg_answer.proofs.PageLaws.{page_more, caller_is_node}
use Rattle.fcg_answer.proofs.graph.copy_edges.Goals as goal

pub next_edge-next-requires : goal.next_edge-next-requires
next_edge-next-requires c = caller_is_node (types_of c.args.stitched.now) (c.args.from + c.loop-taken.taken) c.in-Some.a c.in-Some.b (sym c.loop-taken.invariant.1 ∙ c.in-Some.is)

pub loop-taken-preserved : goal.loop-taken-preserved
loop-taken-preserved c =
    let es = edges (types_of c.args.stitched.now) in
    let from = c.args.from in
    let taken = c.loop-taken.taken in
    let at = sym c.loop-taken.invariant.1 ∙ c.in-Some.is in (
      c.in_ok-push.ensures.items ∙ ap (λ (xs : List (ℕ × ℕ)). xs ++ (c.in-Some.a, c.in-Some.b) ∷ []) c.loop-taken.invariant.0 ∙ sym (page_more es from taken (c.in-Some.a, c.in-Some.b) at),
      c.next_edge-next.ensures (from + taken) at ∙ (let n : from + taken + 1 ≡ from + (taken + 1) = omega arith in ap (λ (k : ℕ). slice_get es k) n),
    )

pub returns : goal.returns
returns c =
    let es = edges (types_of c.args.stitched.now) in
    let end : c.loop-taken.taken ≡ c.args.count = (let f = c.loop-taken-test.false in let l = c.loop-taken.auto.taken-end in omega (arith, f, l)) in
    c.into-2.ensures ∙ c.loop-taken.invariant.0 ∙ ap (λ (k : ℕ). page c.args.from k es) end
