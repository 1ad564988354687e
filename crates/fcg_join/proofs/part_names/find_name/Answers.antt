use Rattle.std.proofs.Common.{◌+◌, ◌-◌, ◌/◌, ◌<◌, [], length, get_or, sym, ap, ◌∙◌, arith}
use Rattle.std.specs.Prelude.{map, Some}
use Rattle.std.proofs.lemmas.List.{get_or-map, length-map}
use Rattle.std.proofs.lemmas.Option.{slice_get-get_or}
use Rattle.fcg_grammar.specs.Table.{order}
use Rattle.fcg_grammar.proofs.TableLaws.{one_row}
use Rattle.fcg_join.specs.Internal.PartNames.{name_there, no_place}
use Rattle.fcg_join.proofs.SearchNames.{searched_less, searched_greater, searched_none}
use Rattle.fcg_join.proofs.part_names.find_name.Goals as goal

pub returns-in-Equal-clause-found : goal.returns-in-Equal-clause-found
returns-in-Equal-clause-found c =
    let middle = c.loop-low.low + (c.loop-low.high - c.loop-low.low) / 2 in
    let names = map (name_there c.args.parts.now) c.args.places.now in
    let m : middle < c.loop-low.high = omega (arith, c.loop-low-test.true) in
    let long = length-map c.args.places.now (name_there c.args.parts.now) in
    let w = c.loop-low.invariant.within in
    let l : middle < length c.args.places.now = omega arith in
    let at = get_or-map (name_there c.args.parts.now) c.args.places.now middle no_place [] l in
    let same = one_row (name_there c.args.parts.now (get_or c.args.places.now middle no_place)) c.args.name.now (sym c.compare_name.ensures ∙ c.in-Equal.is) in
    slice_get-get_or names middle [] (omega arith) ∙ ap (λ n. Some n) (at ∙ same)

pub loop-low-preserved-in-Less : goal.loop-low-preserved-in-Less
loop-low-preserved-in-Less c =
    let middle = c.loop-low.low + (c.loop-low.high - c.loop-low.low) / 2 in
    let names = map (name_there c.args.parts.now) c.args.places.now in
    let m : middle < c.loop-low.high = omega (arith, c.loop-low-test.true) in
    let long = length-map c.args.places.now (name_there c.args.parts.now) in
    let w = c.loop-low.invariant.within in
    let l : middle < length c.args.places.now = omega arith in
    let at = get_or-map (name_there c.args.parts.now) c.args.places.now middle no_place [] l in
    searched_less names c.args.name.now c.requires.rise c.loop-low.low c.loop-low.high middle c.loop-low.invariant (omega arith) m
    (ap (λ n. order n c.args.name.now) at ∙ sym c.compare_name.ensures ∙ c.in-Less.is)

pub loop-low-preserved : goal.loop-low-preserved
loop-low-preserved c =
    let middle = c.loop-low.low + (c.loop-low.high - c.loop-low.low) / 2 in
    let names = map (name_there c.args.parts.now) c.args.places.now in
    let m : middle < c.loop-low.high = omega (arith, c.loop-low-test.true) in
    let long = length-map c.args.places.now (name_there c.args.parts.now) in
    let w = c.loop-low.invariant.within in
    let l : middle < length c.args.places.now = omega arith in
    let at = get_or-map (name_there c.args.parts.now) c.args.places.now middle no_place [] l in
    searched_greater names c.args.name.now c.requires.rise c.loop-low.low c.loop-low.high middle c.loop-low.invariant (omega arith) m
    (ap (λ n. order n c.args.name.now) at ∙ sym c.compare_name.ensures ∙ c.in-Greater.is)

pub returns-clause-none : goal.returns-clause-none
returns-clause-none c = λ e. searched_none (map (name_there c.args.parts.now) c.args.places.now) c.args.name.now c.loop-low.low c.loop-low.high c.loop-low-test.false c.loop-low.invariant
