use Rattle.std.proofs.Common.{sym, subst, refl}
use Rattle.fcg_grammar.specs.Table.{Rises}
use Rattle.fcg_grammar.proofs.TableLaws.{table_rises}
use Rattle.fcg_join.specs.SetNames.{all_names, set_names}
use Rattle.fcg_join.proofs.TableAnswers.{names_here}
use Rattle.fcg_join.proofs.BelowAnswers.{is_name_number, number_below}
use Rattle.fcg_join.proofs.below.find_number.Goals as goal

pub find_name-requires-clause-rise : goal.find_name-requires-clause-rise
unfolding set_names
find_name-requires-clause-rise c =
    let e = names_here c.args.parts.now c.args.tables.now c.requires c.args.parts.now c.as_slice.result.now refl c.as_slice.ensures.value in
    subst Rises (sym e) (table_rises (all_names c.args.parts.now))

pub returns-clause-value : goal.returns-clause-value
returns-clause-value c =
    is_name_number (set_names c.args.parts.now) c.args.name.now _ (names_here c.args.parts.now c.args.tables.now c.requires c.args.parts.now c.as_slice.result.now refl c.as_slice.ensures.value)
    c.find_name.result c.find_name.ensures.found c.find_name.ensures.none

pub returns-clause-range : goal.returns-clause-range
returns-clause-range c =
    number_below (set_names c.args.parts.now) c.args.name.now c.find_name.result
    (is_name_number (set_names c.args.parts.now) c.args.name.now _ (names_here c.args.parts.now c.args.tables.now c.requires c.args.parts.now c.as_slice.result.now refl c.as_slice.ensures.value)
    c.find_name.result c.find_name.ensures.found c.find_name.ensures.none)
