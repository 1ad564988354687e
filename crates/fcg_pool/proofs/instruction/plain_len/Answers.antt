use Rattle.std.proofs.Common.{get_or, arith}
use Rattle.fcg_pool.proofs.Layouts.{plain_told}
use Rattle.fcg_pool.proofs.instruction.plain_len.Goals.{else-operands-lt5-via-then-operands-lt5+else-operands-code, else-operands-lt5-via-else-operands-lt5}
use Rattle.fcg_pool.proofs.instruction.plain_len.Goals as goal

pub returns-then-operands-code-clause-told : goal.returns-then-operands-code-clause-told
returns-then-operands-code-clause-told c = λ n form site call room.
    let is = (plain_told (get_or c.args.code.now c.args.at 0) n (omega (arith, c.type_inv.code c.args.at)) form site call).0 in
    let number = c.layout_number.ensures in
    let same = c.from-operands.ensures in
    omega (arith, is, number, same)

pub returns-else-operands-lt5-clause-told : goal.returns-else-operands-lt5-clause-told
returns-else-operands-lt5-clause-told c = λ n form site call room.
    let told = plain_told (get_or c.args.code.now c.args.at 0) n (omega (arith, c.type_inv.code c.args.at)) form site call in
    let is = told.0 in
    let few = told.1 in
    let number = c.layout_number.ensures in
    let same = c.from-operands.ensures in
    elim c.else-operands-lt5.branch [
      | else-operands-lt5-via-then-operands-lt5+else-operands-code w ↦ let not = w.if-operands-code.false in absurd (omega (arith, is, number, same, not, room))
      | else-operands-lt5-via-else-operands-lt5 w ↦ let not = w.if-operands-lt5.false in absurd (omega (arith, is, few, number, same, not))
    ]
