use Rattle.std.proofs.Common.{◌≡◌, ℕ, ◌<◌, ◌++◌, List, length, sym, ap, subst, ◌∙◌}
use Rattle.std.specs.Prelude.{All, map}
use Rattle.std.proofs.lemmas.Option.{get_or_from_slice_get}
use Rattle.std.proofs.lemmas.Result.{on_ok_weaker}
use Rattle.fcg_grammar.specs.Table.{place}
use Rattle.fcg_partial.specs.Parts.{PartShown}
use Rattle.fcg_analysis.specs.Declarations.{interface_names}
use Rattle.fcg_join.specs.SetNames.{set_names, part_names}
use Rattle.fcg_join.specs.Internal.PartRows.{HasView}
use Rattle.fcg_join.specs.Internal.TypeNumbers.{interfaces_numbered}
use Rattle.fcg_join.proofs.HeadLaws.{row_there, row_below, own_interfaces}
use Rattle.fcg_join.proofs.type_links.push_used_interfaces.Goals as goal

pub push_interfaces-requires-clause-numbers : goal.push_interfaces-requires-clause-numbers
push_interfaces-requires-clause-numbers c =
    let parts = c.args.parts.now in
    let is = c.requires.head.1 in
    let own : c.row-own.result.now ≡ map (place (set_names parts)) (part_names is.part) = c.row-own.ensures ∙ row_there parts c.args.numbers.now c.args.head.now.part is.part c.requires.numbers is.part_is in
    subst (λ (m : ℕ). All (λ n. n < m) c.row-own.result.now) (sym c.requires.found.long)
    (subst (λ (ns : List ℕ). All (λ n. n < length (set_names parts)) ns) (sym own) (row_below parts c.args.head.now.part is.part is.part_is))

pub returns : goal.returns
returns c = λ t is. (
    let parts = c.args.parts.now in
    let p = c.index-parts-head.result in
    let same : p ≡ is.part = c.index-parts-head.is ∙ get_or_from_slice_get parts c.args.head.now.part is.part p is.part_is in
    let own : c.row-own.result.now ≡ map (place (set_names parts)) (part_names p) =
    c.row-own.ensures ∙ row_there parts c.args.numbers.now c.args.head.now.part is.part c.requires.numbers is.part_is ∙ ap (λ (q : PartShown). map (place (set_names parts)) (part_names q)) (sym same) in
    let view : HasView p c.args.head.now.place is.view = subst (λ (q : PartShown). HasView q c.args.head.now.place is.view) (sym same) is.view_is in
    let names : is.view.interfaces ≡ interface_names t = ap (λ u. u.view.interfaces) is.type_is ∙ sym (own_interfaces parts c.args.head.now t is c.if-head.false) in
    on_ok_weaker c.push_interfaces.result (λ e. e ∙ ap (λ ns. c.args.row.now.items ++ interfaces_numbered (set_names parts) c.args.heads.now c.args.by_name.now ns) names)
    (c.push_interfaces.ensures (set_names parts) is.view own view))
