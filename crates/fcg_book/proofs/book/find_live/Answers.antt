use Rattle.std.proofs.Common.{refl}
use Rattle.fcg_book.proofs.SetLaws.{keys_begin}
use Rattle.fcg_book.proofs.book.find_live.Goals as goal

pub loop-coordinate-init : goal.loop-coordinate-init
loop-coordinate-init c = rw c.new-numbers.ensures.items (refl, keys_begin c.args.log.now.entries c.args.set.now)
