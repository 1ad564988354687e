use Rattle.std.proofs.Common.{◌≡◌, ◌+◌, ◌<◌, List, ℕ, length, sym, subst, arith}
use Rattle.fcg_edges.specs.Rows.{Rows, IsList}
use Rattle.fcg_edges.specs.Internal.Tables.{AreRows}
use Rattle.fcg_edges.specs.Internal.Making.{AreWithLists}
use Rattle.fcg_edges.proofs.RowsMore.{rows_with_list, list_stands}
use Rattle.fcg_edges.proofs.edge_rows.EdgeRows.push_list.Goals as goal

pub invariant_of-self-2 : goal.invariant_of-self-2
invariant_of-self-2 c =
    let i = c.self.inside in
    let r : Rows = record { count = i.count; targets = i.targets; uses = i.uses; lists = i.lists } in
    let few : length i.lists + 1 < 4294967296 = (
    let e : c.len-number.result ≡ length i.lists = c.len-number.ensures in
    let f = c.if-number.false in
    let g = c.self.invariant.few_lists in
    omega (arith, e, f, g)) in
    let list : IsList i.count c.args.list.now = subst (λ (s : Rows). IsList s.count c.args.list.now) (sym c.self.view_is) (record { rise = c.requires.rise; below = c.requires.below }) in
    subst (λ (ls : List (List ℕ)). AreRows (record { count = i.count; targets = i.targets; uses = i.uses; lists = ls }) i.firsts.items) (sym c.in_ok-push_row.ensures.ok)
    (rows_with_list r i.firsts.items c.args.list.now c.self.invariant list few)

pub returns-clause-before : goal.returns-clause-before
returns-clause-before c =
    let i = c.self.inside in
    let r : Rows = record { count = i.count; targets = i.targets; uses = i.uses; lists = i.lists } in
    subst (λ (s : Rows). AreWithLists s (record { count = i.count; targets = i.targets; uses = i.uses; lists = c.push_row.new.self })) c.self.view_is
    (subst (λ (ls : List (List ℕ)). AreWithLists r (record { count = i.count; targets = i.targets; uses = i.uses; lists = ls })) (sym c.in_ok-push_row.ensures.ok)
    (list_stands r i.firsts.items c.args.list.now c.self.invariant))
