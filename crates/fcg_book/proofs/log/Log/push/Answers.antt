use Rattle.std.proofs.Common.{ℕ, ◌+◌, ◌++◌, ◌∷◌, [], length, sym, ap, ◌∙◌, arith}
use Rattle.std.specs.Prelude.{Option}
use Rattle.std.specs.HashMap.{get}
use Rattle.fcg_book.specs.Entries.{LogEntry}
use Rattle.fcg_book.specs.Internal.Index.{LogState}
use Rattle.fcg_book.specs.Log.{Log, live, live_after}
use Rattle.fcg_views.specs.Valid.{is_same}
use Rattle.fcg_book.proofs.LogLaws.{live_push}
use Rattle.fcg_book.proofs.log.Log.push.Goals as goal

pub invariant_of-self : goal.invariant_of-self
invariant_of-self c =
    let log = c.self.inside.entries.items in
    record {
      live = λ q. c.set_live.ensures.live q
          ∙ ap (λ (x : LogEntry). live_after q (c.len-number.result + 1) x.command (get is_same c.self.inside.live q)) (c.stored.view_is ∙ c.into_parts-stored.ensures.stored)
          ∙ ap (λ (o : Option ℕ). live_after q (c.len-number.result + 1) c.args.entry.command o) (c.self.invariant.live q)
          ∙ ap (λ (n : ℕ). live_after q (n + 1) c.args.entry.command (live log q)) (c.len-number.ensures.len ∙ sym (ap (λ (s : LogState). length s.entries) c.self.view_is))
          ∙ sym (ap (λ (es : Log). live es q) c.in-Ok.ensures.items ∙ ap (λ (x : LogEntry). live (log ++ x ∷ []) q) c.into_parts-stored.ensures.stored ∙ live_push log c.args.entry q);
      entry_room = (let a = c.self.invariant.entry_room in let l = c.in-Ok.ensures.len in let k = c.in-Ok.ensures.capacity in omega (arith, a, l, k));
      live_room = (let a = c.self.invariant.live_room in let s = c.set_live.ensures.spare in omega (arith, a, s));
    }
