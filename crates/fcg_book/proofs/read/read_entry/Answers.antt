use Rattle.std.proofs.Common.{arith}
use Rattle.fcg_book.proofs.EntryLaws.{found_of, only_of}
use Rattle.fcg_book.proofs.read.read_entry.Goals as goal

pub returns-clause-found : goal.returns-clause-found
returns-clause-found c = found_of c.args.bytes.now (λ i. omega (arith, c.type_inv.bytes i)) c.read_parts.result c.read_parts.ensures

pub returns-clause-only : goal.returns-clause-only
returns-clause-only c = λ e is spelled. only_of c.args.bytes.now (λ i. omega (arith, c.type_inv.bytes i)) c.read_parts.result c.read_parts.ensures e is spelled
