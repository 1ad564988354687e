use Rattle.std.proofs.Common.{◌<◌, ◌++◌, ℕ, List, sym, ap, subst, ◌∙◌}
use Rattle.std.specs.Prelude.{All, flat_map}
use Rattle.std.proofs.lemmas.List.Elements.{All-nil}
use Rattle.fcg_order.specs.Links.{row}
use Rattle.fcg_edges.specs.Rows.{has}
use Rattle.fcg_edges.proofs.KeptLaws.{has-flat_map, all_of_same}
use Rattle.fcg_edges.proofs.kept_lists.join_targets.Goals as goal

pub returns-clause-list : goal.returns-clause-list
returns-clause-list c =
    let below = c.in_ok-push_targets.ensures.below (subst (λ (ns : List ℕ). All (λ b. b < c.args.rows.now.count) ns) (sym c.new-numbers.ensures.items) (All-nil (λ b. b < c.args.rows.now.count))) in
    record {
      rise = c.sort_distinct.ensures.rise;
      below = all_of_same c.args.rows.now.count c.push_targets.new.numbers.items c.sort_distinct.new.numbers.items c.sort_distinct.ensures.same below;
    }

pub returns-clause-same : goal.returns-clause-same
returns-clause-same c b =
    let targets : List ℕ = flat_map (row c.args.rows.now.lists) c.args.uses.now in
    c.sort_distinct.ensures.same b
    ∙ ap (λ (ns : List ℕ). has ns b) (c.in_ok-push_targets.ensures.items ∙ ap (λ (ns : List ℕ). ns ++ targets) c.new-numbers.ensures.items)
    ∙ has-flat_map c.args.rows.now.lists c.args.uses.now b
