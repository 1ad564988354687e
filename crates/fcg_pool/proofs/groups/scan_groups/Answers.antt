use Rattle.std.proofs.Common.{◌≡◌, ◌∙◌, ◌<◌, ◌≤◌, length, sym, arith, length-drop}
use Rattle.std.proofs.lemmas.Bool.Decides.{nat_tests}
use Rattle.fcg_classfile.proofs.GroupLemmas.{group_none, group_some, group_end}
use Rattle.fcg_pool.proofs.groups.scan_groups.Goals as goal

pub returns-then-count-eq0 : goal.returns-then-count-eq0
returns-then-count-eq0 c =
    let some : 0 < length c.loop-rest.rest.now = grind (arith, nat_tests) in
    sym (group_none c.loop-rest.place c.loop-rest.rest.now some (sym c.front_group-count.ensures ∙ c.if-count-eq0.true)) ∙ c.loop-rest.invariant.0

pub loop-rest-preserved : goal.loop-rest-preserved
loop-rest-preserved c =
    let some : 0 < length c.loop-rest.rest.now = grind (arith, nat_tests) in
    let goes = group_some c.loop-rest.place c.loop-rest.rest.now some (rw (← c.front_group-count.ensures) (omega arith)) in
    let within : c.front_group-count.result ≤ length c.loop-rest.rest.now = rw c.front_group-count.ensures goes.1 in
    rw c.split_at.ensures.back (rw c.front_group-count.ensures (sym goes.0) ∙ c.loop-rest.invariant.0, omega (arith, length-drop c.front_group-count.result c.loop-rest.rest.now))

pub returns : goal.returns
returns c =
    let none : length c.loop-rest.rest.now ≡ 0 = grind (arith, nat_tests) in
    sym (group_end c.loop-rest.place c.loop-rest.rest.now none) ∙ c.loop-rest.invariant.0
