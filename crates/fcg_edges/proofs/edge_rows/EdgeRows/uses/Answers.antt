use Rattle.std.proofs.Common.{◌<◌, ℕ, List, length, sym, subst}
use Rattle.std.specs.Prelude.{All}
use Rattle.fcg_edges.specs.Rows.{Rows}
use Rattle.fcg_edges.proofs.edge_rows.EdgeRows.uses.Goals as goal

pub returns-clause-there : goal.returns-clause-there
returns-clause-there c =
    let there : c.args.a < length c.self.inside.targets = subst (λ (r : Rows). c.args.a < length r.targets) (sym c.self.view_is) c.requires in
    subst (λ (r : Rows). All (λ l. l < length r.lists) c.row.result.now) c.self.view_is
    (subst (λ (us : List ℕ). All (λ l. l < length c.self.inside.lists) us) (sym c.row.ensures) (c.self.invariant.rows c.args.a there).there)
