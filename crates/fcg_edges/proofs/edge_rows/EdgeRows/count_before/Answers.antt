use Rattle.std.proofs.Common.{length, ◌<◌, ◌≡◌, ℕ, ◌+◌, List, get_or, sym, ap, ◌∙◌, arith}
use Rattle.std.specs.Prelude.{sum_by}
use Rattle.std.proofs.lemmas.List.Sums.{sum_by-drop_more}
use Rattle.std.proofs.lemmas.List.Elements.{All-get_or}
use Rattle.fcg_order.specs.Links.{row}
use Rattle.fcg_edges.specs.Rows.{has, leads}
use Rattle.fcg_edges.specs.Internal.Counts.{count_to}
use Rattle.fcg_edges.proofs.NumberCounts.{count_within}
use Rattle.fcg_edges.proofs.TargetCounts.{count_of_leads}
use Rattle.fcg_edges.proofs.KeptRows.{rows_kept}
use Rattle.fcg_edges.proofs.edge_rows.EdgeRows.count_before.Goals as goal

pub count_below-count-requires : goal.count_below-count-requires
count_below-count-requires c = c.targets.ensures.list.rise

pub loop-l-init : goal.loop-l-init
loop-l-init c =
    let r = c.args.self.now in
    let b = c.args.b in
    let w = rows_kept _ r c.self.inside.firsts.items c.self.view_is c.self.invariant in
    ap (λ n. n + sum_by (λ u. count_to (has (row r.lists u)) b) c.uses-l-items.result.now) (c.count_below-count.ensures ∙ ap (λ (ts : List ℕ). count_to (has ts) b) c.targets.ensures.value)
    ∙ ap (λ (us : List ℕ). count_to (has (row r.targets c.args.a)) b + sum_by (λ u. count_to (has (row r.lists u)) b) us) c.uses-l-items.ensures.value
    ∙ sym (count_of_leads r c.args.a b (w.rows c.args.a c.requires.caller))

pub list-requires : goal.list-requires
list-requires c = All-get_or (λ k. k < length c.args.self.now.lists) c.uses-l-items.result.now c.loop-l.l-index 0 c.loop-l-test.true c.uses-l-items.ensures.there

pub count_below-count-requires-in-loop-l : goal.count_below-count-requires-in-loop-l
count_below-count-requires-in-loop-l c = c.list.ensures.list.rise

pub overflow_add-count : goal.overflow_add-count
overflow_add-count c =
    let r = c.args.self.now in
    let f = λ (u : ℕ). count_to (has (row r.lists u)) c.args.b in
    let one : c.count_below-count-in-loop-l.result ≡ count_to (has (row r.lists (get_or c.uses-l-items.result.now c.loop-l.l-index 0))) c.args.b =
    c.count_below-count-in-loop-l.ensures ∙ ap (λ (ks : List ℕ). count_to (has ks) c.args.b) c.list.ensures.value in
    let more = sum_by-drop_more f c.uses-l-items.result.now c.loop-l.l-index 0 c.loop-l-test.true in
    let total = c.loop-l.invariant in
    let l = count_within (leads r c.args.a) c.args.b in
    omega arith

pub loop-l-preserved : goal.loop-l-preserved
loop-l-preserved c =
    let r = c.args.self.now in
    let f = λ (u : ℕ). count_to (has (row r.lists u)) c.args.b in
    let one : c.count_below-count-in-loop-l.result ≡ f (get_or c.uses-l-items.result.now c.loop-l.l-index 0) =
    c.count_below-count-in-loop-l.ensures ∙ ap (λ (ks : List ℕ). count_to (has ks) c.args.b) c.list.ensures.value in
    let more = sum_by-drop_more f c.uses-l-items.result.now c.loop-l.l-index 0 c.loop-l-test.true in
    let total = c.loop-l.invariant in
    omega arith
