use Rattle.std.proofs.Common.{◌≡◌, ◌++◌, sym, ap, subst, ◌∙◌}
use Rattle.std.specs.Prelude.{map}
use Rattle.std.proofs.lemmas.Option.{get_or_from_slice_get}
use Rattle.std.proofs.lemmas.Result.{on_ok_weaker}
use Rattle.fcg_grammar.specs.Table.{place}
use Rattle.fcg_partial.specs.Parts.{PartShown}
use Rattle.fcg_analysis.specs.Declarations.{interface_names}
use Rattle.fcg_join.specs.SetNames.{set_names, part_names}
use Rattle.fcg_join.specs.Internal.PartRows.{HasView}
use Rattle.fcg_join.proofs.HeadLaws.{row_there, own_interfaces}
use Rattle.fcg_join.proofs.used_names.fill_interface_names.Goals as goal

pub returns : goal.returns
returns c = λ t is. (
    let parts = c.args.parts.now in
    let p = c.index-parts-head.result in
    let same : p ≡ is.part = c.index-parts-head.is ∙ get_or_from_slice_get parts c.args.head.now.part is.part p is.part_is in
    let own : c.row-own.result.now ≡ map (place (set_names parts)) (part_names p) =
    c.row-own.ensures ∙ row_there parts c.args.numbers.now c.args.head.now.part is.part c.requires.numbers is.part_is ∙ ap (λ (q : PartShown). map (place (set_names parts)) (part_names q)) (sym same) in
    let view : HasView p c.args.head.now.place is.view = subst (λ (q : PartShown). HasView q c.args.head.now.place is.view) (sym same) is.view_is in
    let names : is.view.interfaces ≡ interface_names t = ap (λ u. u.view.interfaces) is.type_is ∙ sym (own_interfaces parts c.args.head.now t is c.if-head.false) in
    on_ok_weaker c.push_interface_names.result (λ e. e ∙ ap (λ ns. ns ++ map (place (set_names parts)) is.view.interfaces) c.clear.ensures.items ∙ ap (map (place (set_names parts))) names)
    (c.push_interface_names.ensures (set_names parts) is.view own view))
