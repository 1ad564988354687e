use Rattle.std.proofs.Common.{length, ap, arith}
use Rattle.fcg_book.specs.Entries.{command_of}
use Rattle.fcg_book.proofs.LogLaws.{entry_length}
use Rattle.fcg_book.proofs.decide.entry_len.Goals as goal

pub returns-clause-len : goal.returns-clause-len
returns-clause-len c = λ request.
    let e = entry_length (record { request = request; command = command_of c.args.command.now }) in
    let t = ap length c.text.ensures.bytes in
    let o = ap length c.coordinate.ensures in
    let n = c.content_len.ensures in
    omega (arith, e, t, o, n)

pub returns-clause-small : goal.returns-clause-small
returns-clause-small c =
    let short = c.text.ensures.is.short in
    let t = ap length c.text.ensures.bytes in
    let n = c.content_len.ensures in
    let few = c.requires in
    omega (arith, short, t, n, few)
