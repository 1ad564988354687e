use Rattle.std.proofs.Common.{rules, arith, ℕ, ◌<◌}
use Rattle.std.proofs.lemmas.List.Elements.{All-from_get_or}
use Rattle.fcg_views.proofs.Escapes.{same}
use Rattle.fcg_views.proofs.Standing.{stands_whole}
use Rattle.fcg_views.proofs.escaping.push_escaped.Goals as goal

pub returns-clause-ok : goal.returns-clause-ok
returns-clause-ok c =
    let small = All-from_get_or (λ (b : ℕ). b < 256) c.args.bytes.now 0 (λ i within. omega (arith, c.type_inv.bytes i)) in
    rw (← same c.args.place c.args.bytes.now small, ← c.set.ensures, ← c.percent_encode.ensures.text) c.append_to.ensures.ok

pub returns-then-all_stand-clause-ok : goal.returns-then-all_stand-clause-ok
returns-then-all_stand-clause-ok c = search (rules, stands_whole c.args.place c.args.bytes.now)
