use Rattle.std.proofs.Common.{◌≡◌, ℕ, [], List, length, sym, ap, subst, ◌∙◌, arith}
use Rattle.std.specs.Prelude.{false}
use Rattle.std.specs.List.{range_with_len}
use Rattle.std.proofs.lemmas.Option.{get_or_from_slice_get}
use Rattle.std.proofs.lemmas.Result.{IfOk-weaker}
use Rattle.fcg_analysis.specs.NamesAndFlags.{same}
use Rattle.fcg_analysis.specs.Declarations.{object_name}
use Rattle.fcg_join.specs.Names.{text_at}
use Rattle.fcg_join.specs.Parts.{types_of}
use Rattle.fcg_join.specs.SetNames.{set_names}
use Rattle.fcg_join.specs.Internal.Below.{IsNameNumber, AreBelow}
use Rattle.fcg_join.proofs.TableAnswers.{heads_many}
use Rattle.fcg_join.proofs.BelowAnswers.{object_below, none_below}
use Rattle.fcg_join.proofs.below.list_below.Goals as goal

pub list_all-requires : goal.list_all-requires
list_all-requires c = (let m = heads_many c.args.parts.now c.args.tables.now c.requires in let f = c.requires.few in let e = c.len.ensures in let k = c.args.tables.now.heads.ok in omega (arith, m, f, e, k))

pub returns-then-is_object_name : goal.returns-then-is_object_name
returns-then-is_object_name c =
    let m = heads_many c.args.parts.now c.args.tables.now c.requires in
    let k = c.args.tables.now.heads.ok in
    let e = c.len.ensures in
    let n : c.len.result ≡ length (types_of c.args.parts.now) = omega (arith, m, k, e) in
    IfOk-weaker c.list_all.result (λ numbers. numbers.items ≡ range_with_len 0 c.len.result) (λ numbers. AreBelow (types_of c.args.parts.now) c.args.name.now numbers.items)
    (λ numbers q. object_below (types_of c.args.parts.now) c.args.name.now (sym c.is_object_name.ensures ∙ c.if-is_object_name.true) numbers.items (q ∙ ap (range_with_len 0) n)) c.list_all.ensures

text_is : (c : goal.In-Some) → text_at (set_names c.args.parts.now) c.in-Some.number ≡ c.args.name.now
text_is c =
    let s = subst (IsNameNumber (set_names c.args.parts.now) c.args.name.now) c.in-Some.is c.find_number.ensures.value in
    get_or_from_slice_get (set_names c.args.parts.now) c.in-Some.number c.args.name.now [] s

pub list_below_number-requires-clause-other : goal.list_below_number-requires-clause-other
list_below_number-requires-clause-other c = ap (same object_name) (text_is c) ∙ sym c.is_object_name.ensures ∙ c.if-is_object_name.false

pub returns-in-Some : goal.returns-in-Some
returns-in-Some c =
    let s = subst (IsNameNumber (set_names c.args.parts.now) c.args.name.now) c.in-Some.is c.find_number.ensures.value in
    let t = get_or_from_slice_get (set_names c.args.parts.now) c.in-Some.number c.args.name.now [] s in
    IfOk-weaker c.list_below_number.result (λ numbers. AreBelow (types_of c.args.parts.now) (text_at (set_names c.args.parts.now) c.in-Some.number) numbers.items) (λ numbers. AreBelow (types_of c.args.parts.now) c.args.name.now numbers.items)
    (λ numbers b. subst (λ (n : List ℕ). AreBelow (types_of c.args.parts.now) n numbers.items) t b) c.list_below_number.ensures

pub returns-in-None : goal.returns-in-None
returns-in-None c =
    none_below c.args.parts.now c.args.tables.now c.requires c.args.name.now
    (subst (IsNameNumber (set_names c.args.parts.now) c.args.name.now) c.in-None.is c.find_number.ensures.value) (sym c.is_object_name.ensures ∙ c.if-is_object_name.false) c.new.result.items c.new.ensures.items
