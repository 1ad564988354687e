use Rattle.std.proofs.Common.{arith}
use Rattle.fcg_json.proofs.row.held.Goals as goal

pub returns-clause-bytes : goal.returns-clause-bytes
returns-clause-bytes c = λ i. omega (arith, c.type_inv.name i)
