use Rattle.std.proofs.Common.{ap, ◌∙◌}
use Rattle.std.specs.List.{list_any}
use Rattle.fcg_reader.specs.Internal.Calls.{all_unfinished_in}
use Rattle.fcg_reader.specs.Internal.Methods.{Table, methods_of, is_signature}
use Rattle.fcg_reader.proofs.MethodLemmas.{IsTable-grown, IsTable-rows, signed}
use Rattle.fcg_reader.proofs.methods.MethodTable.has.Goals as goal

pub invariant_of-self : goal.invariant_of-self
invariant_of-self c =
    IsTable-rows c.self.inside.methods.items c.self.inside.texts.pool.now c.add_both.new.self.pool.now c.self.inside.texts.known c.add_both.new.self.known c.self.inside.texts.firsts.items c.add_both.new.self.firsts.items c.self.inside.signatures c.self.inside.sites c.add_both.ensures.same c.add_both.ensures.asked c.add_both.ensures.kept c.self.invariant

pub invariant_of-self-2 : goal.invariant_of-self-2
invariant_of-self-2 c =
    IsTable-rows c.self.inside.methods.items c.self.inside.texts.pool.now c.add_both.new.self.pool.now c.self.inside.texts.known c.add_both.new.self.known c.self.inside.texts.firsts.items c.add_both.new.self.firsts.items c.self.inside.signatures c.self.inside.sites c.add_both.ensures.same c.add_both.ensures.asked c.add_both.ensures.kept c.self.invariant

pub returns-clause-value : goal.returns-clause-value
returns-clause-value c =
    let name = c.args.name.now.bytes.now in
    let desc = c.args.desc.now.bytes.now in
    let methods = all_unfinished_in c.self.inside.texts.pool.now c.self.inside.methods.items in
    let table = IsTable-grown methods c.self.inside.texts.pool.now c.add_both.new.self.pool.now c.self.inside.texts.known c.add_both.new.self.known c.self.inside.texts.firsts.items c.add_both.new.self.firsts.items c.self.inside.signatures c.self.inside.sites c.add_both.ensures.asked c.add_both.ensures.kept c.self.invariant in
    let known = signed c.add_both.new.self.known c.self.inside.signatures (methods_of methods) c.in_ok-signature.signature.0 c.in_ok-signature.signature.1 name desc c.in_ok-signature.ensures.name c.in_ok-signature.ensures.desc table.signatures_are in
    c.contains.ensures ∙ known ∙ ap (λ (t : Table). list_any (is_signature name desc) (methods_of t.methods)) c.self.view_is
