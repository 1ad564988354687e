use Rattle.std.proofs.Common.{◌≡◌, ℕ, ◌<◌, ◌++◌, sym, ap, subst, ◌∙◌}
use Rattle.std.specs.Prelude.{option_to_list, IfSome}
use Rattle.std.proofs.lemmas.Result.{on_ok_weaker}
use Rattle.fcg_analysis.specs.Declarations.{interface_names}
use Rattle.fcg_join.specs.SetNames.{set_names}
use Rattle.fcg_join.specs.Internal.TypeNumbers.{superclass_numbered, interfaces_numbered}
use Rattle.fcg_join.proofs.HeadLaws.{used_below, used_is}
use Rattle.fcg_join.proofs.type_links.fill_row.Goals as goal

pub find_superclass-requires-clause-name : goal.find_superclass-requires-clause-name
find_superclass-requires-clause-name c =
    subst (λ (m : ℕ). IfSome c.args.head.now.superclass (λ n. n < m)) (sym c.requires.found.long) (used_below c.args.parts.now c.args.head.now c.requires.head.0 c.requires.head.1)

pub returns : goal.returns
returns c = λ t is. (
    let interfaces = interfaces_numbered (set_names c.args.parts.now) c.args.heads.now c.args.by_name.now (interface_names t) in
    let front : c.push_used_interfaces.new.row.items ≡ interfaces = c.in_ok-push_used_interfaces.ensures t is ∙ ap (λ ns. ns ++ interfaces) c.clear.ensures.items in
    let found = c.find_superclass.ensures ∙ ap (superclass_numbered c.args.heads.now c.args.by_name.now) (used_is c.args.parts.now c.args.head.now t is) in
    on_ok_weaker c.push_found.result (λ e. e ∙ ap (λ ns. ns ++ option_to_list c.find_superclass.result) front ∙ ap (λ o. interfaces ++ option_to_list o) found) c.push_found.ensures)
