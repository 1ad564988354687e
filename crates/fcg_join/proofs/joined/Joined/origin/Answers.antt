use Rattle.std.proofs.Common.{ap, ◌∙◌}
use Rattle.std.specs.Prelude.{Some, option_map}
use Rattle.std.proofs.lemmas.Option.{slice_get-map}
use Rattle.fcg_analysis.specs.Declarations.{Placed}
use Rattle.fcg_join.specs.declared.heads.TypeHead.{TypeHead}
use Rattle.fcg_join.specs.Parts.{placed_view}
use Rattle.fcg_join.proofs.joined.Joined.origin.Goals as goal

pub returns : goal.returns
returns c = λ x h. (
    let is = c.head-head.ensures.value x h in
    record {
      part = is.part;
      part_is = is.part_is;
      type_is = slice_get-map (placed_view is.part) is.part.views c.head-head.result.place ∙ ap (option_map (placed_view is.part)) is.view_is ∙ ap (λ (t : Placed). Some t) is.type_is;
      first_of_name = c.head-head.ensures.first x is;
      first = c.first_method.ensures.value;
      methods = c.from.ensures ∙ ap (λ (g : TypeHead). g.methods) is.head_is;
    })
