use Rattle.std.proofs.Common.{ap, ◌∙◌}
use Rattle.std.proofs.lemmas.List.{take_all}
use Rattle.fcg_grammar.specs.Table.{table}
use Rattle.fcg_partial.proofs.MentionLaws.{texts_table}
use Rattle.fcg_partial.proofs.mentions.Mentions.copy_texts.Goals as goal

pub returns : goal.returns
returns c =
    let same = c.loop-text.invariant ∙ take_all c.loop-text.text-index c.as_slice-texts.result.now c.loop-text-test.false ∙ c.as_slice-texts.ensures.value in
    ap table same ∙ texts_table c.self.inside.texts.items.items c.self.inside.numbers.items c.self.invariant ∙ ap table c.self.view_is
