use Rattle.std.proofs.Common.{◌∙◌, sym, ap}
use Rattle.std.specs.Prelude.{Ok, Some}
use Rattle.fcg_classfile.specs.Breaks.Pool.{Entries, in_slot}
use Rattle.fcg_pool.specs.Internal.ConstantAt.{slot_in, constant_in}
use Rattle.fcg_pool.proofs.PlaceLemmas.{constant_known}
use Rattle.fcg_pool.proofs.pool.Pool.place.Goals as goal

pub returns-in-Some-None-clause-value : goal.returns-in-Some-None-clause-value
returns-in-Some-None-clause-value c =
    let got = c.in-Some-None.ensures.lookup in
    let known = constant_known c.self.inside.bytes.now c.self.inside.places.items c.deref.result.now c.args.self.now c.args.index c.from.result c.in-Some-None.field-0.now c.self.view_is c.deref.ensures.value c.if-index-eq0.false c.from.ensures got.0 got.1 in
    sym (known ∙ ap (λ p. in_slot (Some (slot_in c.self.inside.bytes.now p))) c.in-Some-None.field-0-is)

pub returns-in-Some-Some-clause-value : goal.returns-in-Some-Some-clause-value
returns-in-Some-Some-clause-value c =
    let got = c.in-Some-Some.ensures.lookup in
    let known = constant_known c.self.inside.bytes.now c.self.inside.places.items c.deref.result.now c.args.self.now c.args.index c.from.result c.in-Some-Some.field-0.now c.self.view_is c.deref.ensures.value c.if-index-eq0.false c.from.ensures got.0 got.1 in
    sym (known ∙ ap (λ p. in_slot (Some (slot_in c.self.inside.bytes.now p))) c.in-Some-Some.field-0-is ∙ ap (λ (e : Entries). Ok (constant_in e.bytes c.in-Some-Some.at)) c.self.view_is)
