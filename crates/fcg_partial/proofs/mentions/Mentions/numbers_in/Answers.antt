use Rattle.std.proofs.Common.{ℕ, List, get_or, ap, ◌∙◌}
use Rattle.std.specs.Prelude.{map}
use Rattle.std.proofs.lemmas.List.{take_all}
use Rattle.fcg_grammar.specs.Table.{place}
use Rattle.fcg_partial.proofs.MentionLaws.{places_of_texts}
use Rattle.fcg_partial.proofs.mentions.Mentions.numbers_in.Goals as goal

pub returns : goal.returns
returns c =
    let all = take_all c.loop-text.text-index c.as_slice-mentions.result.now c.loop-text-test.false ∙ c.as_slice-mentions.ensures.value in
    c.loop-text.invariant
    ∙ ap (map (λ (n : ℕ). get_or c.in_ok-texts.texts.items n 0)) all
    ∙ places_of_texts c.args.names.now c.self.inside.texts.items.items c.in_ok-texts.texts.items c.self.inside.numbers.items c.in_ok-texts.ensures c.self.invariant.below
    ∙ ap (λ (l : List (List ℕ)). map (place c.args.names.now) l) c.self.view_is
