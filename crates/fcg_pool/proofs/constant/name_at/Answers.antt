use Rattle.std.proofs.Common.{sym}
use Rattle.fcg_pool.proofs.StandingLemmas.{no_name}
use Rattle.fcg_pool.proofs.constant.name_at.Goals as goal

pub returns-else-bytes-at-eq7 : goal.returns-else-bytes-at-eq7
returns-else-bytes-at-eq7 c = sym (no_name c.args.bytes.now c.args.at c.requires c.if-bytes-at-eq7.false)
