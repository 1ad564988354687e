use Rattle.std.proofs.Common.{◌≡◌, ℕ, ◌<◌, List, length, get_or, sym, ap, subst, ◌∙◌, arith}
use Rattle.std.specs.Prelude.{◌==◌, Option, Some, None, false}
use Rattle.std.specs.List.{list_any}
use Rattle.fcg_analysis.specs.NamesAndFlags.{same}
use Rattle.fcg_analysis.specs.Declarations.{object_name}
use Rattle.fcg_join.specs.declared.heads.TypeHead.{TypeHead}
use Rattle.fcg_join.specs.Names.{text_at}
use Rattle.fcg_join.specs.Parts.{types_of}
use Rattle.fcg_join.specs.SetNames.{set_names}
use Rattle.fcg_join.specs.Internal.PartNames.{name_there}
use Rattle.fcg_join.specs.Internal.TypeNumbers.{class_numbered}
use Rattle.fcg_join.proofs.BelowAnswers.{below_object_name, places_many, name_is, interval_there, entered_there, below_class_there, below_row_there}
use Rattle.fcg_join.proofs.below.is_below_number.Goals as goal

pub returns-then-is_object_name : goal.returns-then-is_object_name
returns-then-is_object_name c = λ t h. (
    let parts = c.args.parts.now in
    let m = places_many parts c.args.tables.now c.requires.tables in
    let text = c.name_there.ensures ∙ ap (name_there parts) c.index-place.ensures ∙ name_is parts c.args.tables.now c.requires.tables c.args.number c.index-place.result.now (omega (arith, c.requires.name)) in
    below_object_name (types_of parts) t (text_at (set_names parts) c.args.number) (sym (ap (same object_name) text) ∙ sym c.is_object_name.ensures ∙ c.if-is_object_name.true))

pub is_under-requires-clause-class : goal.is_under-requires-clause-class
is_under-requires-clause-class c =
    let parts = c.args.parts.now in
    let tables = c.args.tables.now in
    let n = c.args.number in
    let m = places_many parts tables c.requires.tables in
    let text = c.name_there.ensures ∙ ap (name_there parts) c.index-place.ensures ∙ name_is parts tables c.requires.tables n c.index-place.result.now (omega (arith, c.requires.name)) in
    let other : same object_name (text_at (set_names parts) n) ≡ false = sym (ap (same object_name) text) ∙ sym c.is_object_name.ensures ∙ c.if-is_object_name.false in
    let e : class_numbered tables.heads.items tables.linked.by_name.items n ≡ Some c.in-Some.class =
    ap (λ (hs : List TypeHead). class_numbered hs tables.linked.by_name.items n) (sym c.as_slice.ensures.value)
    ∙ ap (λ (bs : List (Option ℕ)). class_numbered c.as_slice.result.now bs n) (sym c.as_slice-by_name.ensures.value) ∙ sym c.find_class.ensures ∙ c.in-Some.is in
    interval_there parts tables c.requires.tables n c.requires.name other c.in-Some.class e

pub is_under-requires-clause-there : goal.is_under-requires-clause-there
is_under-requires-clause-there c = entered_there c.args.parts.now c.args.tables.now c.requires.tables c.args.x c.requires.there

pub returns-in-Some : goal.returns-in-Some
returns-in-Some c = λ t h. (
    let parts = c.args.parts.now in
    let tables = c.args.tables.now in
    let n = c.args.number in
    let m = places_many parts tables c.requires.tables in
    let text = c.name_there.ensures ∙ ap (name_there parts) c.index-place.ensures ∙ name_is parts tables c.requires.tables n c.index-place.result.now (omega (arith, c.requires.name)) in
    let other : same object_name (text_at (set_names parts) n) ≡ false = sym (ap (same object_name) text) ∙ sym c.is_object_name.ensures ∙ c.if-is_object_name.false in
    let e : class_numbered tables.heads.items tables.linked.by_name.items n ≡ Some c.in-Some.class =
    ap (λ (hs : List TypeHead). class_numbered hs tables.linked.by_name.items n) (sym c.as_slice.ensures.value)
    ∙ ap (λ (bs : List (Option ℕ)). class_numbered c.as_slice.result.now bs n) (sym c.as_slice-by_name.ensures.value) ∙ sym c.find_class.ensures ∙ c.in-Some.is in
    c.is_under.ensures ∙ below_class_there parts tables c.requires.tables c.args.x t h n c.requires.name other c.in-Some.class e)

pub returns-in-None : goal.returns-in-None
returns-in-None c = λ t h. (
    let parts = c.args.parts.now in
    let tables = c.args.tables.now in
    let n = c.args.number in
    let m = places_many parts tables c.requires.tables in
    let text = c.name_there.ensures ∙ ap (name_there parts) c.index-place.ensures ∙ name_is parts tables c.requires.tables n c.index-place.result.now (omega (arith, c.requires.name)) in
    let other : same object_name (text_at (set_names parts) n) ≡ false = sym (ap (same object_name) text) ∙ sym c.is_object_name.ensures ∙ c.if-is_object_name.false in
    let e : class_numbered tables.heads.items tables.linked.by_name.items n ≡ None =
    ap (λ (hs : List TypeHead). class_numbered hs tables.linked.by_name.items n) (sym c.as_slice.ensures.value)
    ∙ ap (λ (bs : List (Option ℕ)). class_numbered c.as_slice.result.now bs n) (sym c.as_slice-by_name.ensures.value) ∙ sym c.find_class.ensures ∙ c.in-None.is in
    c.has_number.ensures ∙ ap (λ (ns : List ℕ). list_any (λ k. k == n) ns) c.row.ensures
    ∙ below_row_there parts tables c.requires.tables c.args.x t h n c.requires.name other e)
