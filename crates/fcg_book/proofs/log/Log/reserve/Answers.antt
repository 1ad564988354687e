use Rattle.std.proofs.Common.{sym, ap, ◌∙◌, arith}
use Rattle.fcg_book.specs.Log.{Log, live}
use Rattle.fcg_book.proofs.log.Log.reserve.Goals as goal

pub invariant_of-self-then-self-more : goal.invariant_of-self-then-self-more
invariant_of-self-then-self-more c = record {
  live = λ q. c.reserve-then-self-more.ensures.entries.2 q ∙ c.self.invariant.live q ∙ ap (λ (es : Log). live es q) (sym c.reserve.ensures.items);
  entry_room = (let ok = c.in_ok-reserve.ensures.ok in omega (arith, ok));
  live_room = c.in_ok-reserve-2.ensures.ok;
}
