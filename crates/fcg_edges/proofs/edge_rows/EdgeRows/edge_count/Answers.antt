use Rattle.std.proofs.Common.{◌≡◌, ◌-◌, rules, length, sym, ap, ◌∙◌, arith}
use Rattle.fcg_edges.proofs.EdgePlaces.{edges_many}
use Rattle.fcg_edges.proofs.KeptRows.{rows_kept, first_is}
use Rattle.fcg_edges.specs.Internal.Counts.{edges_before}
use Rattle.fcg_edges.proofs.edge_rows.EdgeRows.edge_count.Goals as goal

pub returns : goal.returns
returns c =
    let r = c.args.self.now in
    let firsts = c.self.inside.firsts.items in
    let w = rows_kept _ r firsts c.self.view_is c.self.invariant in
    let k : c.len.result ≡ length firsts = search rules in
    let i : c.len.result - 1 ≡ length r.targets = (let long = w.firsts_long in omega arith) in
    first_is r firsts w (c.len.result - 1) c.index.result.now (omega arith) c.index.ensures ∙ ap (edges_before r) i ∙ sym (edges_many r)
