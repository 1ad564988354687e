use Rattle.std.proofs.Common.{◌+◌, sym, arith}
use Rattle.fcg_grammar.proofs.Standing.{part_found}
use Rattle.fcg_classfile.specs.declared.fault.ClassRule.TheVariants.{Cut}
use Rattle.fcg_classfile.specs.Breaks.Fault.{fault}
use Rattle.fcg_reader.proofs.code.read_code.Goals as goal

pub read_found-requires-clause-short : goal.read_found-requires-clause-short
read_found-requires-clause-short c =
    let found = part_found (fault (c.args.at + 6 + 8) 0 Cut) c.args.bytes.now (c.args.at + 6 + 8) _ c.in_ok-read_part.field-0.now (sym c.in_ok-read_part.ensures.value) in
    let many = found.1 in
    let few = c.if-len-gt65535.false in
    omega (arith, many, few)
