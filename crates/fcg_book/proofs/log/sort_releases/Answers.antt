use Rattle.fcg_partial.proofs.InternLaws.{made_table}
use Rattle.fcg_book.proofs.log.sort_releases.Goals as goal

pub returns : goal.returns
returns c = made_table c.args.releases.items c.sort_unstable.new.self.items c.dedup.new.self.items c.sort_unstable.ensures.permutation c.sort_unstable.ensures.sorted c.dedup.ensures.filtered
