use Rattle.std.proofs.Common.{ℕ, List, [], ◌++◌, sym, ap, ◌∙◌}
use Rattle.std.specs.List.{flat_map}
use Rattle.std.proofs.lemmas.List.{append-nil}
use Rattle.fcg_grammar.specs.Table.{table}
use Rattle.fcg_partial.specs.Internal.Written.{numbers_of, view_rows, collected}
use Rattle.fcg_partial.proofs.intern.collect_rows.Goals as goal

pub returns : goal.returns
returns c = λ names e. (
    let all = c.in_ok-push_rows.ensures names [] (c.new.ensures ∙ e ∙ sym (append-nil (numbers_of names (collected c.args.views.now)))) in
    c.sort_rows.ensures ∙ ap table (all.0 ∙ ap (λ (l : List (List ℕ)). l ++ flat_map (view_rows names) c.args.views.now) c.in_ok-rows.ensures.items))
