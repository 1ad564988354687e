use Rattle.std.proofs.Common.{◌≡◌, ℕ, ◌≤◌, ◌<◌, List, length, refl, sym, ap, subst, ◌∙◌, inl, inr, arith}
use Rattle.std.proofs.lemmas.Result.{err_from_is_err_and}
use Rattle.fcg_analysis.proofs.General.Places.{some_at}
use Rattle.fcg_join.specs.Parts.{nodes_of}
use Rattle.fcg_partial.specs.Parts.{PartShown}
use Rattle.fcg_edges.specs.Rows.{Rows, edges_of}
use Rattle.fcg_stitch.specs.Internal.Rows.{AreStates}
use Rattle.fcg_stitch.specs.Internal.Tables.{AreOfNodes}
use Rattle.fcg_stitch.proofs.CallerRows.{calls_one_more, calls_first, next_cost}
use Rattle.fcg_stitch.proofs.CallerEdges.{no_edges, all_edges}
use Rattle.fcg_stitch.proofs.NodeRows.{no_nodes, first_work, one_node_more, more_edges, next_work}
use Rattle.fcg_stitch.proofs.callers.stitch_nodes.Goals as goal

pub loop-m-init : goal.loop-m-init
loop-m-init g c =
    let none : length (edges_of c.in_ok-maker.maker) ≡ 0 = no_edges c.in_ok-maker.maker (ap (λ (r : Rows). length r.targets) c.in_ok-maker.ensures) in
    let states : (lists : List (List ℕ)) → AreStates c.args.joined.now lists c.in_ok-work.work.states = λ lists. subst (λ (ps : List PartShown). AreStates ps lists c.in_ok-work.work.states) (c.as_slice.ensures ∙ c.parts.ensures) (c.in_ok-work.ensures.states lists) in
    record {
      nodes = no_nodes c.args.joined.now c.in_ok-maker.maker c.method_count-count.result c.in_ok-work.work.statuses.items c.new-firsts.result.items c.in_ok-maker.ensures c.method_count-count.ensures c.in_ok-work.ensures.statuses c.new-firsts.ensures.items;
      work = first_work c.args.joined.now c.in_ok-maker.maker c.method_count-count.result c.in_ok-work.work c.in_ok-maker.ensures c.method_count-count.ensures (states c.in_ok-maker.maker.lists) c.in_ok-work.ensures.targets c.in_ok-work.ensures.uses;
      targets = c.in_ok-work.ensures.targets;
      uses = c.in_ok-work.ensures.uses;
      few = omega arith;
      cost = omega arith;
      rises = omega arith;
    }

pub loop-m-preserved : goal.loop-m-preserved
loop-m-preserved g c =
    let parts = c.args.joined.now in
    let size : c.len.result ≡ length c.loop-m.work.statuses.items = omega (arith, c.len.ensures, c.loop-m.work.statuses.ok.0) in
    let less : c.loop-m.m < length (nodes_of parts) = subst (λ (i : ℕ). c.loop-m.m < i) c.method_count-count.ensures c.loop-m-test.true in
    let n = some_at (nodes_of parts) c.loop-m.m less in
    record {
      nodes = one_node_more parts c.loop-m.m n.0 c.loop-m.maker c.add_sites.new.maker c.in_ok-maker-2.maker c.loop-m.work c.add_sites.new.work c.loop-m.firsts.items n.1
          c.loop-m.invariant.nodes c.in_ok-add_sites.ensures.lists c.in_ok-maker-2.ensures.rows c.loop-m.invariant.targets c.loop-m.invariant.uses
          (c.in_ok-add_sites.ensures.targets n.0 n.1) (c.in_ok-add_sites.ensures.statuses n.0 n.1) c.push.new.self.items c.len.result size c.in_ok-push.ensures.items;
      work = next_work parts c.add_sites.new.maker c.in_ok-maker-2.maker c.add_sites.new.work (record { states = c.add_sites.new.work.states; row = c.end_row.new.row; statuses = c.add_sites.new.work.statuses })
          c.add_sites.new.work.row.targets.items c.add_sites.new.work.row.uses.items c.in_ok-add_sites.ensures.work c.in_ok-maker-2.ensures.rows refl c.in_ok-maker-2.ensures.targets c.in_ok-maker-2.ensures.uses;
      targets = c.in_ok-maker-2.ensures.targets;
      uses = c.in_ok-maker-2.ensures.uses;
      few = c.in_ok-maker-2.ensures.few;
      cost = (let p = c.loop-m.invariant.cost in let q = c.in_ok-add_sites.ensures.cost n.0 n.1 in let r = calls_one_more (nodes_of parts) c.loop-m.m n.0 n.1 in omega arith);
      rises = (let p = c.loop-m.invariant.rises in let q = c.in_ok-add_sites.ensures.rises in omega arith);
    }

pub returns-in_err-push-clause-cost : goal.returns-in_err-push-clause-cost
returns-in_err-push-clause-cost g c =
    let p = c.loop-m.invariant.cost in
    let q = calls_first (nodes_of c.args.joined.now) c.loop-m.m in
    omega arith

pub returns-in_err-add_sites-clause-cost : goal.returns-in_err-add_sites-clause-cost
returns-in_err-add_sites-clause-cost g c =
    let all = nodes_of c.args.joined.now in
    let n = some_at all c.loop-m.m (subst (λ (i : ℕ). c.loop-m.m < i) c.method_count-count.ensures c.loop-m-test.true) in
    next_cost all c.loop-m.m n.0 n.1 c.args.steps.now c.loop-m.steps c.add_sites.new.steps c.loop-m.invariant.cost (c.add_sites.ensures.cost n.0 n.1)

pub returns-in_err-maker-2-clause-refused : goal.returns-in_err-maker-2-clause-refused
returns-in_err-maker-2-clause-refused g c =
    let parts = c.args.joined.now in
    let less : c.loop-m.m < length (nodes_of parts) = subst (λ (i : ℕ). c.loop-m.m < i) c.method_count-count.ensures c.loop-m-test.true in
    let n = some_at (nodes_of parts) c.loop-m.m less in
    let same = err_from_is_err_and c.from_residual-in_err-maker-2.result c.from_residual-in_err-maker-2.ensures.1 in
    rw (same.1, same.2) (
    elim c.in_err-maker-2.ensures.refused [
      | inl h ↦ inl h
      | inr h ↦ inr (
        h.0,
        more_edges parts c.loop-m.m n.0 c.loop-m.maker c.add_sites.new.maker h.1.0 c.loop-m.work c.add_sites.new.work c.loop-m.firsts.items n.1
            c.loop-m.invariant.nodes c.in_ok-add_sites.ensures.lists h.1.1 c.loop-m.invariant.targets c.loop-m.invariant.uses
            (c.in_ok-add_sites.ensures.targets n.0 n.1) (c.in_ok-add_sites.ensures.statuses n.0 n.1) 32000000 h.1.2,
      )
    ])

pub returns-in_err-maker-2-clause-cost : goal.returns-in_err-maker-2-clause-cost
returns-in_err-maker-2-clause-cost g c =
    let all = nodes_of c.args.joined.now in
    let n = some_at all c.loop-m.m (subst (λ (i : ℕ). c.loop-m.m < i) c.method_count-count.ensures c.loop-m-test.true) in
    next_cost all c.loop-m.m n.0 n.1 c.args.steps.now c.loop-m.steps c.add_sites.new.steps c.loop-m.invariant.cost (c.add_sites.ensures.cost n.0 n.1)

pub returns-clause-tables : goal.returns-clause-tables
returns-clause-tables g c =
    let at : c.loop-m.m ≡ length (nodes_of c.args.joined.now) = omega (arith, c.method_count-count.ensures, c.loop-m-test.false, c.loop-m.auto.m-end) in
    subst (λ (r : Rows). AreOfNodes c.args.joined.now (length (nodes_of c.args.joined.now)) r c.loop-m.work.statuses.items c.loop-m.firsts.items) (sym c.finish.ensures)
    (subst (λ (k : ℕ). AreOfNodes c.args.joined.now k c.loop-m.maker c.loop-m.work.statuses.items c.loop-m.firsts.items) at c.loop-m.invariant.nodes)

pub returns-clause-few : goal.returns-clause-few
returns-clause-few g c =
    let at : c.loop-m.m ≡ length (nodes_of c.args.joined.now) = omega (arith, c.method_count-count.ensures, c.loop-m-test.false, c.loop-m.auto.m-end) in
    let nodes = subst (λ (k : ℕ). AreOfNodes c.args.joined.now k c.loop-m.maker c.loop-m.work.statuses.items c.loop-m.firsts.items) at c.loop-m.invariant.nodes in
    subst (λ (es : List (ℕ × ℕ)). length es ≤ 32000000) (all_edges c.args.joined.now c.loop-m.maker c.loop-m.work.statuses.items c.loop-m.firsts.items nodes) c.loop-m.invariant.few

pub returns-clause-cost : goal.returns-clause-cost
returns-clause-cost g c =
    let p = c.loop-m.invariant.cost in
    let q = calls_first (nodes_of c.args.joined.now) c.loop-m.m in
    omega arith
