use Rattle.std.proofs.Common.{rules, ◌≡◌, ◌++◌, ◌∷◌, [], ℕ, List, length, sym, ap, subst, ◌∙◌}
use Rattle.fcg_order.specs.Internal.Rows.{rows_of, AreStarts}
use Rattle.fcg_order.proofs.RowLaws.{starts_push, rows_push}
use Rattle.fcg_order.proofs.links.Links.push_row.Goals as goal

targets : (c : goal.After-unwrap) → c.extend_from_slice.new.self.items ≡ c.self.inside.targets.items ++ c.args.row.now
targets c = c.in_ok-extend_from_slice.ensures.items

starts : (c : goal.After-unwrap) → c.push.new.self.items ≡ c.self.inside.starts.items ++ length (c.self.inside.targets.items ++ c.args.row.now) ∷ []
starts c =
    let items = rw c.unwrap.ensures at c.push.ensures.items in
    let long : c.len.result ≡ length c.extend_from_slice.new.self.items = search rules in
    items ∙ ap (λ (ss : List ℕ). ss ++ c.len.result ∷ []) c.reserve.ensures.items
    ∙ ap (λ (n : ℕ). c.self.inside.starts.items ++ n ∷ []) (long ∙ ap (λ (ts : List ℕ). length ts) (targets c))

pub invariant_of-self-2 : goal.invariant_of-self-2
invariant_of-self-2 c =
    subst (λ (ss : List ℕ). AreStarts ss c.extend_from_slice.new.self.items) (sym (starts c))
    (subst (λ (ts : List ℕ). AreStarts (c.self.inside.starts.items ++ length (c.self.inside.targets.items ++ c.args.row.now) ∷ []) ts) (sym (targets c))
    (starts_push c.self.inside.starts.items c.self.inside.targets.items c.args.row.now c.self.invariant))

pub returns-clause-ok : goal.returns-clause-ok
returns-clause-ok c =
    ap (λ (ss : List ℕ). rows_of ss c.extend_from_slice.new.self.items) (starts c)
    ∙ ap (λ (ts : List ℕ). rows_of (c.self.inside.starts.items ++ length (c.self.inside.targets.items ++ c.args.row.now) ∷ []) ts) (targets c)
    ∙ rows_push c.self.inside.starts.items c.self.inside.targets.items c.args.row.now c.self.invariant
    ∙ ap (λ (rows : List (List ℕ)). rows ++ c.args.row.now ∷ []) c.self.view_is
