use Rattle.std.proofs.Common.{◌≡◌, ℕ, [], sym, ap, subst}
use Rattle.fcg_order.specs.Links.{row}
use Rattle.fcg_edges.specs.Rows.{Rows, IsList}
use Rattle.fcg_edges.proofs.edge_rows.EdgeRows.list.Goals as goal

pub returns-clause-list : goal.returns-clause-list
returns-clause-list c =
    let lists : c.self.inside.lists ≡ c.args.self.now.lists = ap (λ (r : Rows). r.lists) c.self.view_is in
    let there = rw (← lists) at c.requires in
    let list : IsList c.self.inside.count (row c.self.inside.lists c.args.l) = c.self.invariant.lists c.args.l [] there in
    subst (λ (n : ℕ). IsList n c.row.result.now) (ap (λ (r : Rows). r.count) c.self.view_is) (subst (IsList c.self.inside.count) (sym c.row.ensures) list)
