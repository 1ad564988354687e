use Rattle.std.proofs.Common.{arith, refl}
use Rattle.std.proofs.lemmas.Bool.Decides.{nat_tests}
use Rattle.fcg_bytes.proofs.FileLemmas.{read-found}
use Rattle.fcg_bytes.proofs.memory_files.read_file.Goals as goal

pub returns-in_default-clause-answer : goal.returns-in_default-clause-answer
returns-in_default-clause-answer c = rw (read-found c.args.files.now c.args.path.now c.args.limit c.find_file.result c.find_file.ensures, c.in_default.is) refl

pub returns-then-len-limit-clause-answer : goal.returns-then-len-limit-clause-answer
returns-then-len-limit-clause-answer c = rw (read-found c.args.files.now c.args.path.now c.args.limit c.find_file.result c.find_file.ensures, c.in-Some.is) (grind (arith, nat_tests))

pub returns-clause-answer : goal.returns-clause-answer
returns-clause-answer c = rw (read-found c.args.files.now c.args.path.now c.args.limit c.find_file.result c.find_file.ensures, c.in-Some.is) (grind (arith, nat_tests))
