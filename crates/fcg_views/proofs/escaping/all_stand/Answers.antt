use Rattle.std.proofs.Common.{rules, arith, get_or}
use Rattle.std.proofs.lemmas.List.{drop_more}
use Rattle.fcg_views.proofs.Standing.{stands}
use Rattle.fcg_views.proofs.escaping.all_stand.Goals as goal

pub loop-byte-preserved : goal.loop-byte-preserved
loop-byte-preserved c =
    let byte = get_or c.args.bytes.now c.loop-byte.byte-index 0 in
    let small = c.type_inv.bytes c.loop-byte.byte-index in
    search (rules, drop_more c.args.bytes.now c.loop-byte.byte-index 0 c.loop-byte-test.true, stands c.args.place byte (omega (arith, small)))
