use Rattle.std.proofs.Common.{rules, ◌≡◌, ℕ, List, sym, ap, subst, ◌∙◌}
use Rattle.std.specs.Prelude.{Option, Some, None}
use Rattle.std.proofs.lemmas.Result.{IfOk-weaker}
use Rattle.fcg_order.specs.Links.{row}
use Rattle.fcg_join.specs.declared.heads.TypeHead.{TypeHead}
use Rattle.fcg_join.specs.Names.{text_at}
use Rattle.fcg_join.specs.Parts.{types_of}
use Rattle.fcg_join.specs.SetNames.{set_names}
use Rattle.fcg_join.specs.Internal.TypeNumbers.{class_numbered}
use Rattle.fcg_join.specs.Internal.Mentions.{AreSorted}
use Rattle.fcg_join.specs.Internal.Below.{interval, AreBelow}
use Rattle.fcg_join.proofs.BelowAnswers.{interval_there, listed_class_there, listed_row_there}
use Rattle.fcg_join.proofs.below.list_below_number.Goals as goal

found : (c : goal.In-Some) → class_numbered c.args.tables.now.heads.items c.args.tables.now.linked.by_name.items c.args.number ≡ Some c.in-Some.class
found c =
    ap (λ (hs : List TypeHead). class_numbered hs c.args.tables.now.linked.by_name.items c.args.number) (sym c.as_slice.ensures.value)
    ∙ ap (λ (bs : List (Option ℕ)). class_numbered c.as_slice.result.now bs c.args.number) (sym c.as_slice-by_name.ensures.value) ∙ sym c.find_class.ensures ∙ c.in-Some.is

pub list_class-requires : goal.list_class-requires
list_class-requires c = interval_there c.args.parts.now c.args.tables.now c.requires.tables c.args.number c.requires.name c.requires.other c.in-Some.class (found c)

pub returns-in-Some : goal.returns-in-Some
returns-in-Some c =
    let e : class_numbered c.args.tables.now.heads.items c.args.tables.now.linked.by_name.items c.args.number ≡ Some c.in-Some.class =
    ap (λ (hs : List TypeHead). class_numbered hs c.args.tables.now.linked.by_name.items c.args.number) (sym c.as_slice.ensures.value)
    ∙ ap (λ (bs : List (Option ℕ)). class_numbered c.as_slice.result.now bs c.args.number) (sym c.as_slice-by_name.ensures.value) ∙ sym c.find_class.ensures ∙ c.in-Some.is in
    IfOk-weaker c.list_class.result (λ numbers. AreSorted (interval c.args.tables.now.inherited.places c.in-Some.class) numbers.items) (λ numbers. AreBelow (types_of c.args.parts.now) (text_at (set_names c.args.parts.now) c.args.number) numbers.items)
    (λ numbers s. listed_class_there c.args.parts.now c.args.tables.now c.requires.tables c.args.number c.requires.name c.requires.other c.in-Some.class e numbers.items s) c.list_class.ensures

pub returns-in-None : goal.returns-in-None
returns-in-None c =
    let e : class_numbered c.args.tables.now.heads.items c.args.tables.now.linked.by_name.items c.args.number ≡ None =
    ap (λ (hs : List TypeHead). class_numbered hs c.args.tables.now.linked.by_name.items c.args.number) (sym c.as_slice.ensures.value)
    ∙ ap (λ (bs : List (Option ℕ)). class_numbered c.as_slice.result.now bs c.args.number) (sym c.as_slice-by_name.ensures.value) ∙ sym c.find_class.ensures ∙ c.in-None.is in
    let b : AreBelow (types_of c.args.parts.now) (text_at (set_names c.args.parts.now) c.args.number) c.row.result.now =
    subst (λ (ns : List ℕ). AreBelow (types_of c.args.parts.now) (text_at (set_names c.args.parts.now) c.args.number) ns) (sym c.row.ensures) (listed_row_there c.args.parts.now c.args.tables.now c.requires.tables c.args.number c.requires.name c.requires.other e) in
    IfOk-weaker c.copy_row.result (λ numbers. numbers.items ≡ c.row.result.now) (λ numbers. AreBelow (types_of c.args.parts.now) (text_at (set_names c.args.parts.now) c.args.number) numbers.items)
    (λ numbers q. subst (λ (ns : List ℕ). AreBelow (types_of c.args.parts.now) (text_at (set_names c.args.parts.now) c.args.number) ns) (sym q) b) c.copy_row.ensures
