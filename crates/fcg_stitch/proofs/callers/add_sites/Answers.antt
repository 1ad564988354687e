use Rattle.std.proofs.Common.{ℕ, ◌≤◌, ◌<◌, ◌+◌, subst, ◌∙◌, arith}
use Rattle.fcg_analysis.specs.Nodes.{Node}
use Rattle.fcg_analysis.proofs.General.Places.{some_at}
use Rattle.fcg_join.specs.Parts.{types_of, nodes_of}
use Rattle.fcg_join.specs.Joined.{HasNode}
use Rattle.fcg_stitch.specs.Internal.Calling.{AddsTargets, AddsStatuses}
use Rattle.fcg_stitch.proofs.MoreLists.{same_lists, more_and_more}
use Rattle.fcg_stitch.proofs.CallerRows.{adds_nothing, adds_no_status}
use Rattle.fcg_stitch.proofs.MethodSites.{stands_in_given, calls_as, one_site_leads, one_site_status, one_site_cost, first_sites_cost, all_sites_lead, all_sites_status}
use Rattle.fcg_stitch.proofs.callers.add_sites.Goals as goal

pub count_sites-k-end-requires : goal.count_sites-k-end-requires
count_sites-k-end-requires g c =
    let n = some_at (nodes_of c.args.joined.now) c.args.m.0 c.requires.there in
    (n.0.method, stands_in_given c.args.joined.now c.as_slice-parts.result.now c.find_place-at.result n.0 (c.as_slice-parts.ensures ∙ c.parts.ensures) (c.find_place-at.ensures n.0 n.1))

pub loop-k-init : goal.loop-k-init
loop-k-init g c = record {
  work = c.requires.work;
  lists = same_lists c.args.maker.now;
  targets = λ n h. adds_nothing c.args.maker.now c.args.work.now;
  statuses = λ n h. adds_no_status c.args.work.now;
  cost = λ n h. omega arith;
  rises = omega arith;
}

pub find_site-row-requires : goal.find_site-row-requires
find_site-row-requires g c =
    let n = some_at (nodes_of c.args.joined.now) c.args.m.0 c.requires.there in
    let stands = stands_in_given c.args.joined.now c.as_slice-parts.result.now c.find_place-at.result n.0 (c.as_slice-parts.ensures ∙ c.parts.ensures) (c.find_place-at.ensures n.0 n.1) in
    (n.0.method, stands, subst (λ (i : ℕ). c.loop-k.k < i) (c.count_sites-k-end.ensures n.0.method stands) c.loop-k-test.true)

pub add_site-requires-clause-site : goal.add_site-requires-clause-site
add_site-requires-clause-site g c =
    let same = c.as_slice-parts.ensures ∙ c.parts.ensures in
    let n = some_at (nodes_of c.args.joined.now) c.args.m.0 c.requires.there in
    let stands = stands_in_given c.args.joined.now c.as_slice-parts.result.now c.find_place-at.result n.0 same (c.find_place-at.ensures n.0 n.1) in
    let s = some_at n.0.method.sites c.loop-k.k (subst (λ (i : ℕ). c.loop-k.k < i) (c.count_sites-k-end.ensures n.0.method stands) c.loop-k-test.true) in
    (n.0.owner, s.0, calls_as c.args.joined.now c.as_slice-parts.result.now c.owner-caller.result c.call_of.result c.find_place-at.result.part c.find_site-row.result n.0.owner s.0 same (c.owner-caller.ensures.value n.0 n.1) c.call_of.ensures (c.find_site-row.ensures n.0.method s.0 stands s.1))

pub returns-in_err-add_site-clause-cost : goal.returns-in_err-add_site-clause-cost
returns-in_err-add_site-clause-cost g c = λ n h.
    let same = c.as_slice-parts.ensures ∙ c.parts.ensures in
    let stands = stands_in_given c.args.joined.now c.as_slice-parts.result.now c.find_place-at.result n same (c.find_place-at.ensures n h) in
    let s = some_at n.method.sites c.loop-k.k (subst (λ (i : ℕ). c.loop-k.k < i) (c.count_sites-k-end.ensures n.method stands) c.loop-k-test.true) in
    let a = calls_as c.args.joined.now c.as_slice-parts.result.now c.owner-caller.result c.call_of.result c.find_place-at.result.part c.find_site-row.result n.owner s.0 same (c.owner-caller.ensures.value n h) c.call_of.ensures (c.find_site-row.ensures n.method s.0 stands s.1) in
    first_sites_cost n (c.loop-k.k + 1) c.args.steps.now c.add_site.new.steps
    (one_site_cost (types_of c.args.joined.now) n c.loop-k.k s.0 s.1 c.args.steps.now c.loop-k.steps c.add_site.new.steps (c.loop-k.invariant.cost n h) (c.add_site.ensures.cost n.owner s.0 a))

pub loop-k-preserved : goal.loop-k-preserved
loop-k-preserved g c =
    let types = types_of c.args.joined.now in
    let same = c.as_slice-parts.ensures ∙ c.parts.ensures in
    let stands = λ (n : Node) (h : HasNode c.args.joined.now c.args.m n). stands_in_given c.args.joined.now c.as_slice-parts.result.now c.find_place-at.result n same (c.find_place-at.ensures n h) in
    let site = λ (n : Node) (h : HasNode c.args.joined.now c.args.m n). some_at n.method.sites c.loop-k.k (subst (λ (i : ℕ). c.loop-k.k < i) (c.count_sites-k-end.ensures n.method (stands n h)) c.loop-k-test.true) in
    let calling = λ (n : Node) (h : HasNode c.args.joined.now c.args.m n).
    calls_as c.args.joined.now c.as_slice-parts.result.now c.owner-caller.result c.call_of.result c.find_place-at.result.part c.find_site-row.result n.owner (site n h).0 same (c.owner-caller.ensures.value n h) c.call_of.ensures
    (c.find_site-row.ensures n.method (site n h).0 (stands n h) (site n h).1) in
    record {
      work = c.in_ok-add_site.ensures.work;
      lists = more_and_more c.args.maker.now c.loop-k.maker c.add_site.new.maker c.loop-k.invariant.lists c.in_ok-add_site.ensures.lists;
      targets = λ n h. one_site_leads types n c.loop-k.k (site n h).0 (site n h).1 c.args.maker.now c.loop-k.maker c.add_site.new.maker c.args.work.now c.loop-k.work c.add_site.new.work (c.loop-k.invariant.targets n h) (c.in_ok-add_site.ensures.targets n.owner (site n h).0 (calling n h));
      statuses = λ n h. one_site_status types n c.loop-k.k (site n h).0 (site n h).1 c.args.work.now c.loop-k.work c.add_site.new.work (c.loop-k.invariant.statuses n h) (c.in_ok-add_site.ensures.statuses n.owner (site n h).0 (calling n h));
      cost = λ n h. one_site_cost types n c.loop-k.k (site n h).0 (site n h).1 c.args.steps.now c.loop-k.steps c.add_site.new.steps (c.loop-k.invariant.cost n h) (c.in_ok-add_site.ensures.cost n.owner (site n h).0 (calling n h));
      rises = (let p = c.loop-k.invariant.rises in let q = c.in_ok-add_site.ensures.rises in omega arith);
    }

pub returns-clause-targets : goal.returns-clause-targets
returns-clause-targets g c = λ n h.
    let stands = stands_in_given c.args.joined.now c.as_slice-parts.result.now c.find_place-at.result n (c.as_slice-parts.ensures ∙ c.parts.ensures) (c.find_place-at.ensures n h) in
    let all = all_sites_lead (types_of c.args.joined.now) n c.loop-k.k (subst (λ (i : ℕ). i ≤ c.loop-k.k) (c.count_sites-k-end.ensures n.method stands) c.loop-k-test.false) in
    subst (λ ks. AddsTargets c.args.maker.now c.loop-k.maker c.args.work.now c.loop-k.work ks) all (c.loop-k.invariant.targets n h)

pub returns-clause-statuses : goal.returns-clause-statuses
returns-clause-statuses g c = λ n h.
    let stands = stands_in_given c.args.joined.now c.as_slice-parts.result.now c.find_place-at.result n (c.as_slice-parts.ensures ∙ c.parts.ensures) (c.find_place-at.ensures n h) in
    let all = all_sites_status (types_of c.args.joined.now) n c.loop-k.k (subst (λ (i : ℕ). i ≤ c.loop-k.k) (c.count_sites-k-end.ensures n.method stands) c.loop-k-test.false) in
    subst (λ ss. AddsStatuses c.args.work.now c.loop-k.work ss) all (c.loop-k.invariant.statuses n h)

pub returns-clause-cost : goal.returns-clause-cost
returns-clause-cost g c = λ n h. first_sites_cost n c.loop-k.k c.args.steps.now c.loop-k.steps (c.loop-k.invariant.cost n h)
