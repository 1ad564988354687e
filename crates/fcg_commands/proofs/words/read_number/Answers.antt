use Rattle.std.proofs.Common.{◌≤◌, length, sym, ◌∙◌, arith}
use Rattle.fcg_commands.proofs.WordLaws.{parsed}
use Rattle.fcg_commands.proofs.words.read_number.Goals as goal

pub returns : goal.returns
returns c =
    let short : length c.args.word.now ≤ 20 = (let f = c.if-word-gt20.false in omega (arith, f)) in
    let digits = rw c.as_bytes.ensures.value at c.are_digits.ensures in
    c.ok.ensures.value ∙ parsed c.args.word.now c.parse.result short (sym digits ∙ c.if-not-are_digits.false) c.parse.ensures.value.0
