use Rattle.std.proofs.Common.{ℕ, List, sym, ap, ◌∙◌}
use Rattle.std.specs.Prelude.{◌||◌}
use Rattle.fcg_order.specs.Links.{row}
use Rattle.fcg_edges.specs.Rows.{has, any_has, leads}
use Rattle.fcg_edges.proofs.edge_rows.EdgeRows.has_edge.Goals as goal

pub has_number-requires : goal.has_number-requires
has_number-requires c = c.targets.ensures.list.rise

pub returns-then-has_number : goal.returns-then-has_number
unfolding leads
returns-then-has_number c =
    let r = c.args.self.now in
    let own = sym (c.has_number.ensures ∙ ap (λ (ts : List ℕ). has ts c.args.b) c.targets.ensures.value) ∙ c.if-has_number.true in
    c.if-has_number.true ∙ sym (ap (λ x. x || any_has r.lists (row r.uses c.args.a) c.args.b) own)

pub returns-else-has_number : goal.returns-else-has_number
unfolding leads
returns-else-has_number c =
    let r = c.args.self.now in
    let own = sym (c.has_number.ensures ∙ ap (λ (ts : List ℕ). has ts c.args.b) c.targets.ensures.value) ∙ c.if-has_number.false in
    c.has_listed.ensures ∙ sym (ap (λ x. x || any_has r.lists (row r.uses c.args.a) c.args.b) own)
