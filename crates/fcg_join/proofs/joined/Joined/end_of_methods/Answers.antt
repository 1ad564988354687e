use Rattle.std.proofs.Common.{ap, arith}
use Rattle.fcg_join.specs.declared.heads.TypeHead.{TypeHead}
use Rattle.fcg_join.specs.Parts.{types_of}
use Rattle.fcg_join.proofs.GraphRows.{item}
use Rattle.fcg_join.proofs.SignatureAnswers.{last_node}
use Rattle.fcg_join.proofs.joined.Joined.end_of_methods.Goals as goal

pub overflow_add-result : goal.overflow_add-result
overflow_add-result c =
    let x = item (types_of c.args.self.now) c.args.t.0 c.requires in
    let is = c.head.ensures.value x.0 x.1 in
    let many = ap (λ (g : TypeHead). g.methods) is.head_is in
    let last = last_node c.args.self.now c.args.t.0 x.0 x.1 in
    let few = c.first_method.ensures.few in
    omega (arith, c.first_method.ensures.value, c.from.ensures)

pub returns : goal.returns
returns c = λ x h. (
    let is = c.head.ensures.value x h in
    let many = ap (λ (g : TypeHead). g.methods) is.head_is in
    omega (arith, c.first_method.ensures.value, c.from.ensures))
