use Rattle.std.proofs.Common.{◌<◌, List, length, sym, ap, subst, ◌∙◌}
use Rattle.std.specs.Prelude.{All, filter, map, slice_get}
use Rattle.fcg_partial.specs.Parts.{PartShown}
use Rattle.fcg_analysis.specs.Types.{is_below}
use Rattle.fcg_join.specs.declared.id.TypeId.{TypeId}
use Rattle.fcg_join.specs.Parts.{types_of}
use Rattle.fcg_join.specs.Internal.Below.{HaveNumbers, AreBelow}
use Rattle.fcg_join.proofs.CollectedLaws.{map_twice}
use Rattle.fcg_join.proofs.BelowAnswers.{ids_within}
use Rattle.fcg_join.proofs.joined.Joined.below.Goals as goal

pub returns-clause-value : goal.returns-clause-value
returns-clause-value c =
    let types = types_of c.args.self.now in
    let name = c.args.name.now in
    let numbers = c.in_ok-numbers.numbers.items in
    let listed : HaveNumbers types numbers (filter (λ t. is_below types t name) types) =
    (subst (λ (ps : List PartShown). AreBelow (types_of ps) name numbers) (c.as_slice.ensures ∙ c.self.view_is) c.in_ok-numbers.ensures).listed in
    sym (map_twice (slice_get types) (λ (id : TypeId). id.0) c.in_ok-ids.ids.items)
    ∙ ap (map (slice_get types)) (c.in_ok-ids.ensures ∙ c.deref.ensures.value) ∙ listed

pub returns-clause-range : goal.returns-clause-range
returns-clause-range c =
    ids_within (length (types_of c.args.self.now)) c.in_ok-ids.ids.items c.in_ok-numbers.numbers.items (c.in_ok-ids.ensures ∙ c.deref.ensures.value)
    (subst (λ (ps : List PartShown). AreBelow (types_of ps) c.args.name.now c.in_ok-numbers.numbers.items) (c.as_slice.ensures ∙ c.self.view_is) c.in_ok-numbers.ensures).range
