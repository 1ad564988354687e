use Rattle.std.proofs.Common.{◌≡◌, ◌+◌, ap, ◌∙◌, arith}
use Rattle.std.specs.Prelude.{slice_get}
use Rattle.fcg_edges.specs.Rows.{leads, edges_of}
use Rattle.fcg_edges.specs.Internal.Counts.{count_to, edges_before}
use Rattle.fcg_edges.proofs.NumberCounts.{count_within}
use Rattle.fcg_edges.proofs.EdgePlaces.{before_more, place_of_edge}
use Rattle.fcg_edges.proofs.KeptRows.{rows_kept, first_is}
use Rattle.fcg_edges.proofs.edge_rows.EdgeRows.edge.Goals as goal

pub overflow_sub-k : goal.overflow_sub-k
overflow_sub-k c = (let e = first_is c.args.self.now c.self.inside.firsts.items (rows_kept _ c.args.self.now c.self.inside.firsts.items c.self.view_is c.self.invariant) c.find_caller-a.result c.index-first.result.now (let l = c.find_caller-a.ensures.there in omega arith) c.index-first.ensures in let l = c.find_caller-a.ensures.from in omega arith)

pub overflow_cast-k : goal.overflow_cast-k
overflow_cast-k c =
    let r = c.args.self.now in
    let w = rows_kept _ r c.self.inside.firsts.items c.self.view_is c.self.invariant in
    let few = w.few in
    let e = first_is c.args.self.now c.self.inside.firsts.items (rows_kept _ c.args.self.now c.self.inside.firsts.items c.self.view_is c.self.invariant) c.find_caller-a.result c.index-first.result.now (let l = c.find_caller-a.ensures.there in omega arith) c.index-first.ensures in
    let l = c.find_caller-a.ensures.until in
    let more = before_more r c.find_caller-a.result in
    let size = count_within (leads r c.find_caller-a.result) r.count in
    omega arith

pub find_target-requires-clause-more : goal.find_target-requires-clause-more
find_target-requires-clause-more c =
    let e = first_is c.args.self.now c.self.inside.firsts.items (rows_kept _ c.args.self.now c.self.inside.firsts.items c.self.view_is c.self.invariant) c.find_caller-a.result c.index-first.result.now (let l = c.find_caller-a.ensures.there in omega arith) c.index-first.ensures in
    let m = c.find_caller-a.ensures.from in
    let l = c.find_caller-a.ensures.until in
    let more = before_more c.args.self.now c.find_caller-a.result in
    omega arith

pub returns : goal.returns
returns c =
    let r = c.args.self.now in
    let a = c.find_caller-a.result in
    let b = c.find_target.result in
    let e = first_is c.args.self.now c.self.inside.firsts.items (rows_kept _ c.args.self.now c.self.inside.firsts.items c.self.view_is c.self.invariant) c.find_caller-a.result c.index-first.result.now (let l = c.find_caller-a.ensures.there in omega arith) c.index-first.ensures in
    let m = c.find_caller-a.ensures.from in
    let before = c.find_target.ensures.before in
    let place : c.args.k ≡ edges_before r a + count_to (leads r a) b = omega arith in
    ap (slice_get (edges_of r)) place ∙ place_of_edge r a b c.find_caller-a.ensures.there c.find_target.ensures.node c.find_target.ensures.target
