use Rattle.std.proofs.Common.{rules, ℕ, List, ap, ◌∙◌}
use Rattle.std.specs.Prelude.{Bool, not}
use Rattle.std.proofs.lemmas.Fn.{filter_same}
use Rattle.fcg_edges.specs.Rows.{has}
use Rattle.fcg_edges.specs.Internal.Making.{met}
use Rattle.fcg_edges.proofs.RowSizes.{has-filter}
use Rattle.fcg_edges.proofs.marking.keep_unmarked.Goals as goal

pub returns-clause-same : goal.returns-clause-same
returns-clause-same c b =
    let passes : ℕ → Bool = λ n. not (met c.args.marks.now c.args.turn n) in
    c.sort_distinct.ensures.same b
    ∙ ap (λ (ns : List ℕ). has ns b) (filter_same _ passes _ (λ x b f k. search rules) c.args.numbers.now.items c.retain.new.self.items c.retain.ensures.filtered)
    ∙ has-filter passes c.args.numbers.now.items b
