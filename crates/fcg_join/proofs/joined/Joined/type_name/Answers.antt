use Rattle.std.proofs.Common.{List, sym, subst, ◌∙◌}
use Rattle.fcg_partial.specs.Parts.{PartShown}
use Rattle.fcg_join.specs.Parts.{types_of}
use Rattle.fcg_join.specs.SetNames.{set_names}
use Rattle.fcg_join.specs.Internal.TypeHeads.{IsHead}
use Rattle.fcg_join.proofs.GraphRows.{item}
use Rattle.fcg_join.proofs.joined.Joined.type_name.Goals as goal

pub name_of_head-requires : goal.name_of_head-requires
name_of_head-requires c =
    let x = item (types_of c.args.self.now) c.args.t.0 c.requires in
    let e = c.as_slice.ensures ∙ c.self.view_is in
    (x.0, subst (λ (ps : List PartShown). IsHead ps (set_names ps) c.head.result x.0) (sym e) (c.head.ensures.value x.0 x.1))

pub returns : goal.returns
returns c = λ x h. (
    let e = c.as_slice.ensures ∙ c.self.view_is in
    c.name_of_head.ensures x (subst (λ (ps : List PartShown). IsHead ps (set_names ps) c.head.result x) (sym e) (c.head.ensures.value x h)))
