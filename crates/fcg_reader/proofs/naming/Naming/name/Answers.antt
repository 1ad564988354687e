use Rattle.std.proofs.Common.{◌<◌, length, subst, sym}
use Rattle.fcg_reader.specs.Internal.Naming.{Named}
use Rattle.fcg_reader.proofs.NamingLemmas.{named_push}
use Rattle.fcg_reader.proofs.naming.Naming.name.Goals as goal

pub invariant_of-self-2 : goal.invariant_of-self-2
invariant_of-self-2 c =
    let below = subst (λ (n : Named). c.in_ok-number.number < length n.list.texts) (sym c.self.view_is) c.in_ok-number.ensures.number.0 in
    named_push c.self.inside.pool.now c.self.inside.list c.push.new.self c.in_ok-number.number c.self.inside.numbers.items c.in_ok-push.ensures.ok below c.self.invariant
