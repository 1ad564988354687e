use Rattle.std.proofs.Common.{List, sym, ap, subst, ◌∙◌}
use Rattle.std.specs.Prelude.{slice_get}
use Rattle.std.proofs.lemmas.Option.{same_Some}
use Rattle.fcg_partial.specs.Parts.{PartShown}
use Rattle.fcg_analysis.specs.Declarations.{Placed}
use Rattle.fcg_join.specs.declared.id.NameId.{NameId}
use Rattle.fcg_join.specs.Parts.{types_of}
use Rattle.fcg_join.specs.SetNames.{part_names, set_names}
use Rattle.fcg_join.specs.Internal.TypeHeads.{IsHead}
use Rattle.fcg_join.proofs.GraphRows.{item, super_back, super_none}
use Rattle.fcg_join.proofs.joined.Joined.superclass_name.Goals as goal

pub superclass_number-requires : goal.superclass_number-requires
superclass_number-requires c =
    let x = item (types_of c.args.self.now) c.args.t.0 c.requires in
    let e = c.as_slice.ensures ∙ c.self.view_is in
    (x.0, subst (λ (ps : List PartShown). IsHead ps (set_names ps) c.head-head.result x.0) (sym e) (c.head-head.ensures.value x.0 x.1))

pub part_name-requires : goal.part_name-requires
part_name-requires c =
    let x = item (types_of c.args.self.now) c.args.t.0 c.requires in
    let is = c.head-head.ensures.value x.0 x.1 in
    let e = c.as_slice.ensures ∙ c.self.view_is in
    (is.part, is.part_is, c.in-Some.ensures.below is.part (ap (λ (ps : List PartShown). slice_get ps c.head-head.result.part) e ∙ is.part_is))

pub returns-in-Some-clause-value : goal.returns-in-Some-clause-value
returns-in-Some-clause-value c = λ x id h e n hn. (
    let is = c.head-head.ensures.value x h in
    let here = ap (λ (ps : List PartShown). slice_get ps c.head-head.result.part) (c.as_slice.ensures ∙ c.self.view_is) ∙ is.part_is in
    let i = item (part_names is.part) c.in-Some.number (c.in-Some.ensures.below is.part here) in
    let back = super_back is.part c.head-head.result.place is.view is.view_is c.in-Some.number i.0 (c.in-Some.ensures.value is.part is.view here is.view_is) i.1 in
    let name = c.part_name.ensures.value is.part is.part_is i.0 i.1 in
    ap (λ (t : Placed). t.view.superclass) (sym is.type_is) ∙ sym back ∙ sym name ∙ ap (λ (q : NameId). slice_get (set_names c.args.self.now) q.0) (same_Some c.part_name.result id e) ∙ hn)

pub returns-in-None-clause-none : goal.returns-in-None-clause-none
returns-in-None-clause-none c = λ x h e. (
    let is = c.head-head.ensures.value x h in
    let here = ap (λ (ps : List PartShown). slice_get ps c.head-head.result.part) (c.as_slice.ensures ∙ c.self.view_is) ∙ is.part_is in
    ap (λ (t : Placed). t.view.superclass) (sym is.type_is) ∙ sym (super_none is.part is.view (c.in-None.ensures.value is.part is.view here is.view_is)))
