use Rattle.std.proofs.Common.{List, sym, subst, ◌∙◌}
use Rattle.fcg_grammar.specs.Table.{Rises}
use Rattle.fcg_grammar.proofs.TableLaws.{table_rises}
use Rattle.fcg_partial.specs.Parts.{PartShown}
use Rattle.fcg_join.specs.SetNames.{all_names, set_names}
use Rattle.fcg_join.specs.Internal.Tables.{IsJoined}
use Rattle.fcg_join.proofs.TableAnswers.{names_here}
use Rattle.fcg_join.proofs.NameAnswers.{named_within}
use Rattle.fcg_join.proofs.joined.Joined.name_id.Goals as goal

pub find_name-requires-clause-rise : goal.find_name-requires-clause-rise
unfolding set_names
find_name-requires-clause-rise c =
    let j = subst (λ (ps : List PartShown). IsJoined ps c.self.inside.tables) c.self.view_is c.self.invariant in
    let e = names_here c.args.self.now c.self.inside.tables j c.as_slice.result.now c.as_slice-places.result.now (c.as_slice.ensures ∙ c.self.view_is) c.as_slice-places.ensures.value in
    subst Rises (sym e) (table_rises (all_names c.args.self.now))

pub returns-clause-range : goal.returns-clause-range
returns-clause-range c =
    let j = subst (λ (ps : List PartShown). IsJoined ps c.self.inside.tables) c.self.view_is c.self.invariant in
    let e = names_here c.args.self.now c.self.inside.tables j c.as_slice.result.now c.as_slice-places.result.now (c.as_slice.ensures ∙ c.self.view_is) c.as_slice-places.ensures.value in
    named_within (set_names c.args.self.now) _ c.args.name.now c.find_name.result c.name_id.result e c.name_id.ensures c.find_name.ensures.found
