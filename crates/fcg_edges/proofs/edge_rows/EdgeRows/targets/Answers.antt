use Rattle.std.proofs.Common.{◌<◌, length, sym, subst}
use Rattle.fcg_edges.specs.Rows.{Rows, IsList}
use Rattle.fcg_edges.proofs.edge_rows.EdgeRows.targets.Goals as goal

pub returns-clause-list : goal.returns-clause-list
returns-clause-list c =
    let there : c.args.a < length c.self.inside.targets = subst (λ (r : Rows). c.args.a < length r.targets) (sym c.self.view_is) c.requires in
    subst (λ (r : Rows). IsList r.count c.row.result.now) c.self.view_is (subst (IsList c.self.inside.count) (sym c.row.ensures) (c.self.invariant.rows c.args.a there).rise)
