use Rattle.std.proofs.Common.{◌≡◌, ℕ, ◌<◌, List, length, get_or, sym, ap, subst, ◌∙◌, arith}
use Rattle.std.specs.Prelude.{All, map}
use Rattle.std.proofs.lemmas.List.{length-map}
use Rattle.fcg_grammar.specs.Table.{table, place}
use Rattle.fcg_join.specs.Names.{texts_of}
use Rattle.fcg_join.specs.SetNames.{all_names, set_names}
use Rattle.fcg_join.specs.Internal.PartNames.{no_place, name_there}
use Rattle.fcg_join.specs.declared.part_names.NamePlace.{NamePlace}
use Rattle.fcg_join.proofs.PartNameLaws.{all_places, all_texts, picked_there, picked_are}
use Rattle.fcg_join.proofs.part_names.number_part_names.Goals as goal

pub collect_names-requires : goal.collect_names-requires
collect_names-requires c = all_places c.args.parts.now c.deref.result.now (c.deref.ensures.value ∙ c.in_ok-places.ensures)

pub number_names-requires : goal.number_names-requires
number_names-requires c =
    let e = all_texts c.args.parts.now c.deref.result.now (texts_of c.in_ok-texts.texts.items) (c.deref.ensures.value ∙ c.in_ok-places.ensures) c.in_ok-texts.ensures in
    let m = length-map c.in_ok-texts.texts.items (λ t. t.now) in
    let n = ap (λ ts. length ts) c.deref-2.ensures.value in
    let k = ap (λ ts. length ts) e in
    omega (arith, c.requires.names)

pub cut_rows-requires : goal.cut_rows-requires
unfolding set_names
cut_rows-requires c =
    let e = all_texts c.args.parts.now c.deref.result.now (texts_of c.in_ok-texts.texts.items) (c.deref.ensures.value ∙ c.in_ok-places.ensures) c.in_ok-texts.ensures in
    let f : texts_of c.deref-2.result.now ≡ all_names c.args.parts.now = ap texts_of c.deref-2.ensures.value ∙ e in
    c.deref-3.ensures.value ∙ c.in_ok-found.ensures.of_texts ∙ ap (λ ts. map (place (table ts)) ts) f

pub pick_places-requires : goal.pick_places-requires
pick_places-requires c =
    let texts = texts_of c.deref-2.result.now in
    let read : texts ≡ map (name_there c.args.parts.now) c.deref.result.now = ap texts_of c.deref-2.ensures.value ∙ c.in_ok-texts.ensures in
    let within : All (λ k. k < length texts) c.deref-5.result.now = subst (λ (ks : List ℕ). All (λ k. k < length texts) ks) (sym c.deref-5.ensures.value) c.in_ok-found.ensures.within in
    let long = ap (λ ts. length ts) read ∙ length-map c.deref.result.now (name_there c.args.parts.now) in
    let same = ap (λ ps. length ps) (c.deref-4.ensures.value ∙ sym c.deref.ensures.value) in
    λ k d l. omega (arith, within k d l)

pub returns : goal.returns
returns c =
    let texts = texts_of c.deref-2.result.now in
    let read : texts ≡ map (name_there c.args.parts.now) c.deref.result.now = ap texts_of c.deref-2.ensures.value ∙ c.in_ok-texts.ensures in
    let same = c.deref-4.ensures.value ∙ sym c.deref.ensures.value in
    let kept : c.in_ok-pick_places.field-0.items ≡ map (λ k. get_or c.deref.result.now k no_place) c.in_ok-found.found.places.items =
    c.in_ok-pick_places.ensures ∙ ap (λ (ps : List NamePlace). map (λ k. get_or ps k no_place) c.deref-5.result.now) same ∙ ap (map (λ k. get_or c.deref.result.now k no_place)) c.deref-5.ensures.value in
    record {
      numbers = c.in_ok-cut_rows.ensures;
      there = picked_there c.args.parts.now c.deref.result.now c.in_ok-pick_places.field-0.items texts c.in_ok-found.found.numbers.items c.in_ok-found.found.places.items (c.deref.ensures.value ∙ c.in_ok-places.ensures) read c.in_ok-found.ensures kept;
      names_are = picked_are c.args.parts.now c.deref.result.now c.in_ok-pick_places.field-0.items texts c.in_ok-found.found.numbers.items c.in_ok-found.found.places.items (c.deref.ensures.value ∙ c.in_ok-places.ensures) read c.in_ok-found.ensures kept;
    }
