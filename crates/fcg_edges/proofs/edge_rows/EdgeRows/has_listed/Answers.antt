use Rattle.std.proofs.Common.{length, ◌<◌, ℕ, List, sym, ap, ◌∙◌}
use Rattle.std.proofs.lemmas.List.Folds.{list_any_at}
use Rattle.std.proofs.lemmas.List.Elements.{All-get_or}
use Rattle.fcg_order.specs.Links.{row}
use Rattle.fcg_edges.specs.Rows.{has, any_has}
use Rattle.fcg_edges.proofs.edge_rows.EdgeRows.has_listed.Goals as goal

pub list-requires : goal.list-requires
list-requires c = All-get_or (λ k. k < length c.args.self.now.lists) c.uses-l-items.result.now c.loop-l.l-index 0 c.loop-l-test.true c.uses-l-items.ensures.there

pub has_number-requires : goal.has_number-requires
has_number-requires c = c.list.ensures.list.rise

pub returns-then-has_number : goal.returns-then-has_number
returns-then-has_number c =
    let lists = c.args.self.now.lists in
    let us = c.uses-l-items.result.now in
    let here = sym (c.has_number.ensures ∙ ap (λ (ks : List ℕ). has ks c.args.b) c.list.ensures.value) ∙ c.if-has_number.true in
    sym (ap (λ (us : List ℕ). any_has lists us c.args.b) (sym c.uses-l-items.ensures.value) ∙ list_any_at (λ (l : ℕ). has (row lists l) c.args.b) us c.loop-l.l-index 0 c.loop-l-test.true here)
