use Rattle.std.proofs.Common.{ap, sym, ◌∙◌, ◌≡◌, ◌++◌, List, ℕ}
use Rattle.std.proofs.lemmas.List.{append-nil}
use Rattle.std.specs.Prelude.{Option, is_some}
use Rattle.fcg_grammar.specs.Table.{table}
use Rattle.fcg_book.proofs.SetLaws.{live_table}
use Rattle.fcg_book.proofs.log.Log.releases.Goals as goal

pub returns : goal.returns
returns c =
    let ended = (rw c.in-None.is at c.next.ensures.steps).0 in
    let all : c.into_iter-coordinate-iterator.result ≡ c.loop-coordinate.releases.items = c.loop-coordinate.invariant ∙ ap (λ (x : List (List ℕ)). c.loop-coordinate.releases.items ++ x) ended ∙ append-nil c.loop-coordinate.releases.items in
    let keys : c.loop-coordinate.releases.items ≡ c.keys-coordinate-items.result = sym all ∙ c.into_iter-coordinate-iterator.ensures.into_iter_gives in
    rw (← c.self.view_is) (c.sort_releases.ensures ∙ ap table keys ∙ live_table c.self.inside.entries.items c.keys-coordinate-items.result (λ q. ap (λ (o : Option ℕ). is_some o) (sym (c.self.invariant.live q)) ∙ c.keys-coordinate-items.ensures.has q))
