use Rattle.std.proofs.Common.{◌≡◌, ◌∷◌, [], ◌++◌, ap, ◌∙◌, arith}
use Rattle.fcg_join.proofs.NodeTableLaws.{owners_below, nodes_next}
use Rattle.fcg_join.proofs.nodes.number_nodes.Goals as goal

pub overflow_cast-len : goal.overflow_cast-len
overflow_cast-len c =
    let r = c.requires.methods in
    let a = owners_below c.args.heads.now r.0 r.1 c.loop-y.y c.loop-y.firsts.items c.loop-y.owners.items (c.loop-y.invariant r.0 r.1) in
    let b = r.2 in
    let k = c.loop-y.owners.ok in
    omega (arith, c.len.ensures)

pub loop-y-preserved : goal.loop-y-preserved
loop-y-preserved c = λ types have. (
    let k = c.loop-y.owners.ok in
    let long : c.len.result ≡ Rattle.std.proofs.Common.length c.loop-y.owners.items = omega (arith, c.len.ensures) in
    nodes_next c.args.heads.now types have c.loop-y.y c.loop-y-test.true c.loop-y.firsts.items c.loop-y.owners.items c.push.new.self.items c.push_owner.new.owners.items (c.loop-y.invariant types have)
    (c.in_ok-push.ensures.items ∙ ap (λ n. c.loop-y.firsts.items ++ n ∷ []) long) c.in_ok-push_owner.ensures)
