use Rattle.std.proofs.Common.{◌-◌, arith, rules, []}
use Rattle.fcg_join.proofs.NumberLaws.{number_none, number_next, number_all, some_place}
use Rattle.fcg_join.proofs.names.number_keys.Goals as goal

pub loop-key-init : goal.loop-key-init
loop-key-init c = number_none c.args.texts.now c.args.keys.now c.requires.keys c.in_ok-numbers.numbers.items c.new-places.result.items (search rules) c.new-places.ensures.items

pub overflow_sub-len : goal.overflow_sub-len
overflow_sub-len c =
    let r = some_place c.args.texts.now c.args.keys.now c.requires.keys c.loop-key.numbers.items c.loop-key.places.items c.loop-key.key-index (record { ref_ptr = (0, 0); now = [] }, 0) c.loop-key-test.true c.loop-key.invariant c.add_place.new.places.items c.in_ok-add_place.ensures in
    omega (arith, r.0, c.len.ensures)

pub overflow_cast-len : goal.overflow_cast-len
overflow_cast-len c =
    let r = some_place c.args.texts.now c.args.keys.now c.requires.keys c.loop-key.numbers.items c.loop-key.places.items c.loop-key.key-index (record { ref_ptr = (0, 0); now = [] }, 0) c.loop-key-test.true c.loop-key.invariant c.add_place.new.places.items c.in_ok-add_place.ensures in
    omega (arith, r.1, c.len.ensures, c.requires.few, c.requires.keys.long, c.loop-key-test.true)

pub loop-key-preserved : goal.loop-key-preserved
loop-key-preserved c = number_next c.args.texts.now c.args.keys.now c.requires.keys c.loop-key.numbers.items c.loop-key.places.items c.loop-key.key-index (record { ref_ptr = (0, 0); now = [] }, 0) c.loop-key-test.true c.loop-key.invariant c.add_place.new.places.items (c.len.result - 1) c.in_ok-add_place.ensures (omega (arith, c.len.ensures))

pub returns : goal.returns
returns c = number_all c.args.texts.now c.args.keys.now c.requires.keys c.loop-key.numbers.items c.loop-key.places.items c.loop-key.key-index (omega (arith, c.loop-key-test.false)) (omega (arith, c.loop-key.auto)) c.loop-key.invariant
