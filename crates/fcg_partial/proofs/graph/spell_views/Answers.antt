use Rattle.std.proofs.Common.{◌∙◌, ap}
use Rattle.fcg_grammar.specs.Table.{table}
use Rattle.fcg_partial.proofs.MadeLaws.{names_rise, names_few}
use Rattle.fcg_partial.proofs.graph.spell_views.Goals as goal

pub numbers_in-requires-clause-rises : goal.numbers_in-requires-clause-rises
numbers_in-requires-clause-rises c = names_rise c.args.views.now c.requires.valid c.requires.fits c.as_slice.result.now (c.as_slice.ensures.value ∙ c.in_ok-names.ensures ∙ ap table c.in_ok-mentions.ensures)

pub numbers_in-requires-clause-few : goal.numbers_in-requires-clause-few
numbers_in-requires-clause-few c = names_few c.args.views.now c.requires.valid c.requires.fits c.as_slice.result.now (c.as_slice.ensures.value ∙ c.in_ok-names.ensures ∙ ap table c.in_ok-mentions.ensures)
