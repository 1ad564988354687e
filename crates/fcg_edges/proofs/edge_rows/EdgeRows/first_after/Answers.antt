use Rattle.std.proofs.Common.{◌+◌, sym, ap, ◌∙◌, arith}
use Rattle.std.specs.Prelude.{slice_get}
use Rattle.std.proofs.lemmas.Option.{slice_get_past}
use Rattle.fcg_edges.specs.Rows.{edges_of}
use Rattle.fcg_edges.specs.Internal.Counts.{edges_before}
use Rattle.fcg_edges.proofs.KeptRows.{rows_kept, first_is, before_within}
use Rattle.fcg_edges.proofs.edge_rows.EdgeRows.first_after.Goals as goal

pub returns-then-place-edge_count : goal.returns-then-place-edge_count
returns-then-place-edge_count c =
    let r = c.args.self.now in
    let e = first_is c.args.self.now c.self.inside.firsts.items (rows_kept _ c.args.self.now c.self.inside.firsts.items c.self.view_is c.self.invariant) (c.args.a + 1) c.index-place.result.now (let l = c.requires in omega arith) c.index-place.ensures in
    let n = c.edge_count.ensures in
    let t = c.if-place-edge_count.true in
    sym (slice_get_past (edges_of r) (edges_before r (c.args.a + 1)) (omega arith))

pub edge-requires : goal.edge-requires
edge-requires c =
    let r = c.args.self.now in
    let w = rows_kept _ r c.self.inside.firsts.items c.self.view_is c.self.invariant in
    let e = first_is c.args.self.now c.self.inside.firsts.items (rows_kept _ c.args.self.now c.self.inside.firsts.items c.self.view_is c.self.invariant) (c.args.a + 1) c.index-place.result.now (let l = c.requires in omega arith) c.index-place.ensures in
    let n = c.edge_count.ensures in
    let t = c.if-place-edge_count.false in
    let l = before_within r c.self.inside.firsts.items w (c.args.a + 1) (let l = c.requires in omega arith) in
    omega arith

pub returns : goal.returns
returns c =
    let e = first_is c.args.self.now c.self.inside.firsts.items (rows_kept _ c.args.self.now c.self.inside.firsts.items c.self.view_is c.self.invariant) (c.args.a + 1) c.index-place.result.now (let l = c.requires in omega arith) c.index-place.ensures in
    sym c.edge.ensures ∙ ap (slice_get (edges_of c.args.self.now)) e
