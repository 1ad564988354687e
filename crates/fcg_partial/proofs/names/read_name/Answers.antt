use Rattle.std.proofs.Common.{◌+◌, ℕ, ap, ◌∙◌}
use Rattle.fcg_partial.proofs.TableRows.{size_is}
use Rattle.fcg_partial.proofs.names.read_name.Goals as goal

pub returns-clause-next : goal.returns-clause-next
returns-clause-next c = ap (λ (n : ℕ). c.args.at + 2 + n) (c.from-2.ensures ∙ size_is c.args.bytes.now c.args.at c.in_ok-size.size c.in_ok-size.ensures.value)
