use Rattle.std.proofs.Common.{◌++◌, get_or, arith}
use Rattle.std.proofs.lemmas.List.{get_or_default}
use Rattle.std.specs.Prelude.{flat_map}
use Rattle.fcg_join.specs.Internal.Mentions.{absent_number}
use Rattle.fcg_join.proofs.CollectedLaws.{flat_next, flat_all}
use Rattle.fcg_join.proofs.mentions.push_all_absent.Goals as goal

pub loop-name-preserved : goal.loop-name-preserved
loop-name-preserved c = flat_next (absent_number c.args.by_name.now) c.args.names.now c.loop-name.name-index (get_or c.args.names.now c.loop-name.name-index 0)
    c.loop-name.row.items c.push_absent.new.row.items (c.args.row.now.items ++ flat_map (absent_number c.args.by_name.now) c.args.names.now)
    c.loop-name-test.true (get_or_default c.args.names.now c.loop-name.name-index 0 (get_or c.args.names.now c.loop-name.name-index 0) c.loop-name-test.true) c.in_ok-push_absent.ensures c.loop-name.invariant

pub returns : goal.returns
returns c = flat_all (absent_number c.args.by_name.now) c.args.names.now c.loop-name.name-index c.loop-name.row.items
    (c.args.row.now.items ++ flat_map (absent_number c.args.by_name.now) c.args.names.now)
    (let a = c.loop-name-test.false in omega arith) c.loop-name.invariant
