use Rattle.std.proofs.Common.{◌≡◌, ℕ, ◌<◌, List, [], length, sym, ap, subst, ◌∙◌, arith}
use Rattle.std.specs.Prelude.{All, map}
use Rattle.std.proofs.lemmas.List.{length-map}
use Rattle.std.proofs.lemmas.Result.{IfOk-weaker}
use Rattle.fcg_analysis.specs.Types.{winners}
use Rattle.fcg_join.specs.Parts.{placed}
use Rattle.fcg_join.specs.SetNames.{set_names}
use Rattle.fcg_join.specs.Internal.PartNames.{name_there}
use Rattle.fcg_join.specs.declared.heads.TypeHead.{TypeHead}
use Rattle.fcg_join.specs.Internal.TypeHeads.{IsFirstHead}
use Rattle.fcg_join.specs.Internal.TypeNumbers.{AreHeads}
use Rattle.fcg_join.specs.Winners.{first_marks_after, marked}
use Rattle.fcg_join.proofs.HeadLaws.{all_heads, names_below, winners_are, all_of_map, marks_long}
use Rattle.fcg_join.proofs.MethodLaws.{winners_first}
use Rattle.fcg_join.proofs.known.find_winners.Goals as goal

pub mark_firsts-requires : goal.mark_firsts-requires
mark_firsts-requires c =
    let parts = c.args.parts.now in
    let heads = c.in_ok-heads.heads.items in
    let names : c.deref-2.result.now ≡ map (λ h. h.name) heads = c.deref-2.ensures.value ∙ c.in_ok-numbers.ensures ∙ ap (map (λ h. h.name)) c.deref.ensures.value in
    let many : length (set_names parts) ≡ c.len.result = (
    let e = ap (λ ns. length ns) c.requires.names.names_are in
    let m = length-map c.args.names.now.places.items (name_there parts) in
    let k = c.args.names.now.places.ok in
    let n = c.len.ensures in
    omega arith) in
    subst (λ (count : ℕ). All (λ n. n < count) c.deref-2.result.now) many
    (subst (λ (ns : List ℕ). All (λ n. n < length (set_names parts)) ns) (sym names)
    (all_of_map (λ h. h.name) (length (set_names parts)) heads (names_below parts heads (placed parts) (all_heads parts heads c.in_ok-heads.ensures))))

pub keep_marked-requires : goal.keep_marked-requires
keep_marked-requires c =
    ap (λ ms. length ms) (c.deref-4.ensures.value ∙ c.in_ok-firsts.ensures) ∙ marks_long [] c.deref-2.result.now
    ∙ ap (λ ns. length ns) (c.deref-2.ensures.value ∙ c.in_ok-numbers.ensures) ∙ length-map c.deref.result.now (λ h. h.name)
    ∙ ap (λ hs. length hs) (c.deref.ensures.value ∙ sym c.deref-3.ensures.value)

pub returns-clause-value : goal.returns-clause-value
returns-clause-value c =
    let parts = c.args.parts.now in
    let heads = c.in_ok-heads.heads.items in
    let names : c.deref-2.result.now ≡ map (λ h. h.name) heads = c.deref-2.ensures.value ∙ c.in_ok-numbers.ensures ∙ ap (map (λ h. h.name)) c.deref.ensures.value in
    let marks : c.deref-4.result.now ≡ first_marks_after [] (map (λ h. h.name) heads) = c.deref-4.ensures.value ∙ c.in_ok-firsts.ensures ∙ ap (first_marks_after []) names in
    IfOk-weaker c.keep_marked.result (λ kept. kept.items ≡ marked c.deref-4.result.now c.deref-3.result.now) (λ kept. AreHeads parts kept.items (winners (placed parts)))
    (λ kept e. winners_are parts heads kept.items c.deref-4.result.now (all_heads parts heads c.in_ok-heads.ensures) marks (e ∙ ap (marked c.deref-4.result.now) c.deref-3.ensures.value))
    c.keep_marked.ensures

pub returns-clause-first : goal.returns-clause-first
returns-clause-first c =
    let parts = c.args.parts.now in
    let heads = c.in_ok-heads.heads.items in
    let names : c.deref-2.result.now ≡ map (λ h. h.name) heads = c.deref-2.ensures.value ∙ c.in_ok-numbers.ensures ∙ ap (map (λ h. h.name)) c.deref.ensures.value in
    let marks : c.deref-4.result.now ≡ first_marks_after [] (map (λ h. h.name) heads) = c.deref-4.ensures.value ∙ c.in_ok-firsts.ensures ∙ ap (first_marks_after []) names in
    IfOk-weaker c.keep_marked.result (λ kept. kept.items ≡ marked c.deref-4.result.now c.deref-3.result.now) (λ kept. All (IsFirstHead parts) kept.items)
    (λ kept e. subst (λ (hs : List TypeHead). All (IsFirstHead parts) hs) (sym (e ∙ ap (marked c.deref-4.result.now) c.deref-3.ensures.value)) (winners_first parts heads c.deref-4.result.now c.in_ok-heads.ensures marks))
    c.keep_marked.ensures
