use Rattle.std.proofs.Common.{◌≡◌, ◌+◌, ◌*◌, ℕ, length, refl, sym, ap, ◌∙◌}
use Rattle.std.specs.Prelude.{Ok}
use Rattle.fcg_partial.specs.Fault.{u2_at}
use Rattle.fcg_partial.specs.Internal.StandingRows.{super_of}
use Rattle.fcg_partial.proofs.RowParts.{type_parts}
use Rattle.fcg_partial.proofs.row.load_type.Goals as goal

pub find_methods-methods-requires-clause-there : goal.find_methods-methods-requires-clause-there
find_methods-methods-requires-clause-there c =
    let t = c.requires.there.0 in
    let p = type_parts c.args.bytes.now c.args.at t c.requires.there.1 in
    let fields = c.find_fields-fields.ensures.value t c.requires.there.1 in
    let fields_is : u2_at c.args.bytes.now c.find_fields-fields.result ≡ Ok (length t.fields) = rw fields p.fields in
    (length t.fields, fields_is)

pub load_u4-requires : goal.load_u4-requires
load_u4-requires c = let p = (type_parts c.args.bytes.now c.args.at c.requires.there.0 c.requires.there.1) in (c.requires.there.0.name, p.name)

pub load_u2-requires : goal.load_u2-requires
load_u2-requires c = let p = (type_parts c.args.bytes.now c.args.at c.requires.there.0 c.requires.there.1) in (c.requires.there.0.flags, p.flags)

pub load_u4-requires-2 : goal.load_u4-requires-2
load_u4-requires-2 c = let p = (type_parts c.args.bytes.now c.args.at c.requires.there.0 c.requires.there.1) in (p.super.0, p.super.1)

pub load_u2-requires-2 : goal.load_u2-requires-2
load_u2-requires-2 c = let p = (type_parts c.args.bytes.now c.args.at c.requires.there.0 c.requires.there.1) in (length c.requires.there.0.interfaces, p.interfaces)

pub load_u2-requires-3 : goal.load_u2-requires-3
load_u2-requires-3 c =
    let t = c.requires.there.0 in
    let p = type_parts c.args.bytes.now c.args.at t c.requires.there.1 in
    let fields = c.find_fields-fields.ensures.value t c.requires.there.1 in
    let fields_is : u2_at c.args.bytes.now c.find_fields-fields.result ≡ Ok (length t.fields) = rw fields p.fields in
    (length t.fields, fields_is)

pub load_u2-requires-4 : goal.load_u2-requires-4
load_u2-requires-4 c =
    let t = c.requires.there.0 in
    let p = type_parts c.args.bytes.now c.args.at t c.requires.there.1 in
    let fields = c.find_fields-fields.ensures.value t c.requires.there.1 in
    let fields_is : u2_at c.args.bytes.now c.find_fields-fields.result ≡ Ok (length t.fields) = rw fields p.fields in
    let methods = c.find_methods-methods.ensures (length t.fields) fields_is ∙ ap (λ (n : ℕ). n + 2 + 10 * length t.fields) fields in
    let methods_is : u2_at c.args.bytes.now c.find_methods-methods.result ≡ Ok (length t.methods) = rw methods p.methods in
    (length t.methods, methods_is)

pub returns : goal.returns
returns c = λ t is. (
    let p = type_parts c.args.bytes.now c.args.at t is in
    let fields = c.find_fields-fields.ensures.value t is in
    let fields_is : u2_at c.args.bytes.now c.find_fields-fields.result ≡ Ok (length t.fields) = rw fields p.fields in
    let methods = c.find_methods-methods.ensures (length t.fields) fields_is ∙ ap (λ (n : ℕ). n + 2 + 10 * length t.fields) fields in
    let methods_is : u2_at c.args.bytes.now c.find_methods-methods.result ≡ Ok (length t.methods) = rw methods p.methods in
    let super = c.superclass_of.ensures ∙ ap super_of (c.load_u4-2.ensures p.super.0 p.super.1) ∙ sym p.super.2 in
    rw (c.load_u4.ensures t.name p.name, c.load_u2.ensures t.flags p.flags, super, c.load_u2-2.ensures (length t.interfaces) p.interfaces, c.load_u2-3.ensures (length t.fields) fields_is, c.load_u2-4.ensures (length t.methods) methods_is) refl)
