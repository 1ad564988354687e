use Rattle.std.proofs.Common.{length, sym, ◌∙◌}
use Rattle.fcg_partial.proofs.TypeReads.{marked_long, type_passes}
use Rattle.fcg_partial.proofs.types.read_type.Goals as goal

pub returns-clause-value : goal.returns-clause-value
returns-clause-value c = λ k. (
    let bytes = c.args.bytes.now in
    let n = length c.args.names.now in
    let r = length c.args.refs.now in
    let l1 = c.in_ok-_name.ensures.long in
    let super = rw l1 at c.in_ok-after_super.ensures.value in
    let l2 = marked_long super ∙ l1 in
    let interfaces = rw l2 at c.in_ok-after_interfaces.ensures.value in
    let l3 = marked_long interfaces ∙ l2 in
    let fields = rw l3 at c.in_ok-after_fields.ensures.value in
    let l4 = marked_long fields ∙ l3 in
    let methods = rw l4 at c.read_methods.ensures.value in
    type_passes bytes n r k c.args.at c.args.names.now c.read_index.new.used c.read_super.new.used c.read_interfaces.new.used c.read_fields.new.used c.read_methods.new.names c.args.refs.now c.read_methods.new.refs c.args.methods.now.items c.read_methods.new.places.items
    c.in_ok-_name._name c.in_ok-_flags._flags c.in_ok-after_super.after_super c.in_ok-many.many c.in_ok-after_interfaces.after_interfaces c.in_ok-more.more c.in_ok-after_fields.after_fields c.in_ok-most.most
    (sym c.in_ok-_name.ensures.value) c.in_ok-_name.ensures.marks (sym c.in_ok-_flags.ensures.value) super (sym c.in_ok-many.ensures.value) interfaces (sym c.in_ok-more.ensures.value) fields (sym c.in_ok-most.ensures.value) c.read_methods.result methods)
