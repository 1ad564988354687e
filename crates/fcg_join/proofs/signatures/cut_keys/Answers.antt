use Rattle.std.proofs.Common.{get_or, length, ◌∙◌, arith}
use Rattle.std.proofs.lemmas.List.{get_or_default}
use Rattle.std.proofs.lemmas.List.Sums.{prefix_len-le-length}
use Rattle.fcg_join.specs.Internal.Signatures.{same_pair}
use Rattle.fcg_join.proofs.SignatureKeys.{cut_all, cut_next, some_keys, no_keys}
use Rattle.fcg_join.proofs.signatures.cut_keys.Goals as goal

pub split_at-requires : goal.split_at-requires
split_at-requires c = (let l = prefix_len-le-length (λ k. same_pair (get_or c.loop-rest.rest.now 0 ((0, 0), 0)).0 k.0) c.loop-rest.rest.now in omega (arith, c.run_length.ensures))

pub loop-rest-preserved : goal.loop-rest-preserved
loop-rest-preserved c =
    let rest = c.loop-rest.rest.now in
    let l = some_keys (length rest) c.loop-rest-test.ensures in
    let first = get_or rest 0 ((0, 0), 0) in
    cut_next c.args.keys.now c.loop-rest.pairs.items c.push.new.self.items c.loop-rest.rows c.push_row.new.self rest c.loop-rest.invariant l first (get_or_default rest 0 ((0, 0), 0) first l)
    c.run_length.result c.run_length.ensures c.split_at.result.0.now c.split_at.result.1.now c.split_at.ensures.front c.split_at.ensures.back c.deref.result.now (c.deref.ensures.value ∙ c.in_ok-fill_row.ensures)
    c.in_ok-push.ensures.items c.in_ok-push_row.ensures.ok

pub returns-clause-pairs : goal.returns-clause-pairs
returns-clause-pairs c = (cut_all c.args.keys.now c.loop-rest.rest.now c.loop-rest.pairs.items c.loop-rest.rows (no_keys (length c.loop-rest.rest.now) c.loop-rest-test.ensures) c.loop-rest.invariant).0

pub returns-clause-rows : goal.returns-clause-rows
returns-clause-rows c = (cut_all c.args.keys.now c.loop-rest.rest.now c.loop-rest.pairs.items c.loop-rest.rows (no_keys (length c.loop-rest.rest.now) c.loop-rest-test.ensures) c.loop-rest.invariant).1
