use Rattle.std.proofs.Common.{◌≡◌, ◌+◌, ◌-◌, ◌++◌, ◌∷◌, [], ℕ, List, map, sym, ap, subst, ◌∙◌, arith}
use Rattle.std.specs.Prelude.{slice_get, Some}
use Rattle.fcg_views.specs.declared.uri.MethodUri.{MethodUri}
use Rattle.fcg_analysis.specs.Nodes.{identity}
use Rattle.fcg_join.specs.Parts.{nodes_of}
use Rattle.fcg_answer.specs.Answer.{page}
use Rattle.fcg_answer.proofs.PageLaws.{page_more}
use Rattle.fcg_answer.proofs.graph.copy_nodes.Goals as goal

pub loop-k-preserved : goal.loop-k-preserved
loop-k-preserved c =
    let rows = map identity (nodes_of c.args.stitched.now) in
    let from = c.args.from in
    let k = c.loop-k.k in
    let low = c.loop-k.auto.k in
    let at : from + (k - from) ≡ k = omega (arith, low) in
    let next : k + 1 - from ≡ k - from + 1 = omega (arith, low) in
    let row = subst (λ (n : ℕ). slice_get rows n ≡ Some c.in_ok-copy_node.field-0) (sym at) c.in_ok-copy_node.ensures in
    c.in_ok-push.ensures.items
    ∙ ap (λ (xs : List MethodUri). xs ++ c.in_ok-copy_node.field-0 ∷ []) c.loop-k.invariant
    ∙ sym (page_more rows from (k - from) c.in_ok-copy_node.field-0 row)
    ∙ ap (λ (n : ℕ). page from n rows) (sym next)
