use Rattle.std.proofs.Common.{◌≡◌, ℕ, List, length, sym, ap, subst, ◌∙◌, arith}
use Rattle.std.specs.Prelude.{Option, Some, None, slice_get, Contains}
use Rattle.std.proofs.lemmas.List.{get_or_default, length-map}
use Rattle.std.proofs.lemmas.Option.{slice_get_within}
use Rattle.fcg_grammar.specs.Table.{Rises}
use Rattle.fcg_grammar.proofs.TableLaws.{table_rises}
use Rattle.fcg_partial.specs.Parts.{PartShown}
use Rattle.fcg_analysis.specs.Types.{type_named}
use Rattle.fcg_join.specs.Parts.{types_of}
use Rattle.fcg_join.specs.SetNames.{all_names, set_names}
use Rattle.fcg_join.specs.Internal.PartNames.{name_there}
use Rattle.fcg_join.specs.Joined.{IsTypeNumber}
use Rattle.fcg_join.specs.Internal.Tables.{IsJoined}
use Rattle.fcg_join.proofs.TableAnswers.{named_there, unnamed_there, in_range, names_here}
use Rattle.fcg_join.proofs.joined.Joined.find.Goals as goal

pub find_name-requires-clause-few : goal.find_name-requires-clause-few
find_name-requires-clause-few c =
    let j = subst (λ (ps : List PartShown). IsJoined ps c.self.inside.tables) c.self.view_is c.self.invariant in
    let e = ap (λ ns. length ns) (names_here c.args.self.now c.self.inside.tables j c.as_slice.result.now c.as_slice-places.result.now (c.as_slice.ensures ∙ c.self.view_is) c.as_slice-places.ensures.value) in
    let m = length-map c.as_slice-places.result.now (name_there c.as_slice.result.now) in
    omega (arith, j.few_names)

pub find_name-requires-clause-rise : goal.find_name-requires-clause-rise
unfolding set_names
find_name-requires-clause-rise c =
    let j = subst (λ (ps : List PartShown). IsJoined ps c.self.inside.tables) c.self.view_is c.self.invariant in
    let e = names_here c.args.self.now c.self.inside.tables j c.as_slice.result.now c.as_slice-places.result.now (c.as_slice.ensures ∙ c.self.view_is) c.as_slice-places.ensures.value in
    subst Rises (sym e) (table_rises (all_names c.args.self.now))

pub returns-in-None-clause-value : goal.returns-in-None-clause-value
returns-in-None-clause-value c =
    let j = subst (λ (ps : List PartShown). IsJoined ps c.self.inside.tables) c.self.view_is c.self.invariant in
    let e = names_here c.args.self.now c.self.inside.tables j c.as_slice.result.now c.as_slice-places.result.now (c.as_slice.ensures ∙ c.self.view_is) c.as_slice-places.ensures.value in
    unnamed_there c.args.self.now c.self.inside.tables j c.args.name.now (λ a. c.find_name.ensures.none c.in-None.is (subst (λ (ns : List (List ℕ)). Contains ns c.args.name.now) (sym e) a))

pub returns-in-Some-clause-value : goal.returns-in-Some-clause-value
returns-in-Some-clause-value c =
    let j = subst (λ (ps : List PartShown). IsJoined ps c.self.inside.tables) c.self.view_is c.self.invariant in
    let e = names_here c.args.self.now c.self.inside.tables j c.as_slice.result.now c.as_slice-places.result.now (c.as_slice.ensures ∙ c.self.view_is) c.as_slice-places.ensures.value in
    let s : slice_get (set_names c.args.self.now) c.in-Some.number ≡ Some c.args.name.now = subst (λ (ns : List (List ℕ)). slice_get ns c.in-Some.number ≡ Some c.args.name.now) e c.in-Some.ensures.found in
    let l = slice_get_within (set_names c.args.self.now) c.in-Some.number c.args.name.now s in
    let m = j.by_name.long in
    let r = c.type_id.ensures ∙ c.index.ensures ∙ get_or_default c.self.inside.tables.linked.by_name.items c.in-Some.number c.index.result.now None (omega arith) in
    subst (λ (o : Option ℕ). IsTypeNumber (types_of c.args.self.now) o (type_named (types_of c.args.self.now) c.args.name.now)) (sym r) (named_there c.args.self.now c.self.inside.tables j c.args.name.now c.in-Some.number s)

pub returns-in-Some-clause-range : goal.returns-in-Some-clause-range
returns-in-Some-clause-range c =
    let j = subst (λ (ps : List PartShown). IsJoined ps c.self.inside.tables) c.self.view_is c.self.invariant in
    let e = names_here c.args.self.now c.self.inside.tables j c.as_slice.result.now c.as_slice-places.result.now (c.as_slice.ensures ∙ c.self.view_is) c.as_slice-places.ensures.value in
    let s : slice_get (set_names c.args.self.now) c.in-Some.number ≡ Some c.args.name.now = subst (λ (ns : List (List ℕ)). slice_get ns c.in-Some.number ≡ Some c.args.name.now) e c.in-Some.ensures.found in
    let l = slice_get_within (set_names c.args.self.now) c.in-Some.number c.args.name.now s in
    let m = j.by_name.long in
    let r = c.type_id.ensures ∙ c.index.ensures ∙ get_or_default c.self.inside.tables.linked.by_name.items c.in-Some.number c.index.result.now None (omega arith) in
    in_range (types_of c.args.self.now) _ _ c.type_id.result (named_there c.args.self.now c.self.inside.tables j c.args.name.now c.in-Some.number s) r
