use Rattle.std.proofs.Common.{rules, ◌≡◌, ◌+◌, ◌<◌, ℕ, List, ◌++◌, ◌∷◌, [], length, get_or, sym, ap, subst, ◌∙◌, arith}
use Rattle.fcg_edges.specs.Rows.{Rows, IsWithCaller}
use Rattle.fcg_edges.specs.Internal.Tables.{IsRow, AreRows, size_of}
use Rattle.fcg_edges.proofs.RowSizes.{edges_fit, last_first}
use Rattle.fcg_edges.proofs.RowsMore.{rows_with_row, is_with_caller}
use Rattle.fcg_edges.proofs.edge_rows.EdgeRows.with_row.Goals as goal

pub overflow_add-first : goal.overflow_add-first
overflow_add-first c =
    let i = c.rows.inside in
    let r : Rows = record { count = i.count; targets = i.targets; uses = i.uses; lists = i.lists } in
    let e : r ≡ c.args.self = c.rows.view_is in
    let q : IsRow i.count i.lists c.args.targets.now c.args.uses.now = subst (λ (r : Rows). IsRow r.count r.lists c.args.targets.now c.args.uses.now) (sym e) c.requires.row in
    let more : length i.targets < i.count = subst (λ (r : Rows). length r.targets < r.count) (sym e) c.requires.more in
    let size : c.args.size ≡ size_of i.lists c.args.targets.now c.args.uses.now = c.requires.size ∙ ap (λ (r : Rows). size_of r.lists c.args.targets.now c.args.uses.now) (sym e) in
    let fit = edges_fit r i.firsts.items c.rows.invariant c.args.targets.now c.args.uses.now more q in
    let last = c.index.ensures ∙ last_first r i.firsts.items c.rows.invariant c.len.result c.index.result.now (search rules) in
    omega (arith, fit, last, size)

pub invariant_of-rows : goal.invariant_of-rows
invariant_of-rows c =
    let i = c.rows.inside in
    let targets = c.args.targets.now in
    let uses = c.args.uses.now in
    let r : Rows = record { count = i.count; targets = i.targets; uses = i.uses; lists = i.lists } in
    let e : r ≡ c.args.self = c.rows.view_is in
    let q : IsRow i.count i.lists targets uses = subst (λ (r : Rows). IsRow r.count r.lists targets uses) (sym e) c.requires.row in
    let more : length i.targets < i.count = subst (λ (r : Rows). length r.targets < r.count) (sym e) c.requires.more in
    let size : c.args.size ≡ size_of i.lists targets uses = c.requires.size ∙ ap (λ (r : Rows). size_of r.lists targets uses) (sym e) in
    let last = c.index.ensures ∙ last_first r i.firsts.items c.rows.invariant c.len.result c.index.result.now (search rules) in
    let first : c.index.result.now + c.args.size ≡ get_or i.firsts.items (length i.targets) 0 + size_of i.lists targets uses = omega (arith, last, size) in
    subst (λ (fs : List ℕ). AreRows (record { count = i.count; targets = c.push_row.new.self; uses = c.push_row-2.new.self; lists = i.lists }) fs) (sym c.in_ok-push.ensures.items)
    (subst (λ (ts : List (List ℕ)). AreRows (record { count = i.count; targets = ts; uses = c.push_row-2.new.self; lists = i.lists }) (i.firsts.items ++ (c.index.result.now + c.args.size) ∷ [])) (sym c.in_ok-push_row.ensures.ok)
    (subst (λ (us : List (List ℕ)). AreRows (record { count = i.count; targets = i.targets ++ targets ∷ []; uses = us; lists = i.lists }) (i.firsts.items ++ (c.index.result.now + c.args.size) ∷ [])) (sym c.in_ok-push_row-2.ensures.ok)
    (rows_with_row r i.firsts.items targets uses c.rows.invariant (c.index.result.now + c.args.size) first more q)))

pub returns-clause-caller : goal.returns-clause-caller
returns-clause-caller c =
    let i = c.rows.inside in
    let targets = c.args.targets.now in
    let uses = c.args.uses.now in
    let r : Rows = record { count = i.count; targets = i.targets; uses = i.uses; lists = i.lists } in
    subst (λ (s : Rows). IsWithCaller s (record { count = i.count; targets = c.push_row.new.self; uses = c.push_row-2.new.self; lists = i.lists }) targets uses) c.rows.view_is
    (subst (λ (ts : List (List ℕ)). IsWithCaller r (record { count = i.count; targets = ts; uses = c.push_row-2.new.self; lists = i.lists }) targets uses) (sym c.in_ok-push_row.ensures.ok)
    (subst (λ (us : List (List ℕ)). IsWithCaller r (record { count = i.count; targets = i.targets ++ targets ∷ []; uses = us; lists = i.lists }) targets uses) (sym c.in_ok-push_row-2.ensures.ok)
    (is_with_caller r i.firsts.items targets uses c.rows.invariant)))
