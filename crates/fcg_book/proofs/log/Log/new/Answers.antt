use Rattle.std.proofs.Common.{ℕ, List, sym, ap, ◌∙◌, arith}
use Rattle.std.specs.Map.{lookup}
use Rattle.fcg_book.specs.Log.{Log, live}
use Rattle.fcg_views.specs.Valid.{is_same}
use Rattle.fcg_book.proofs.LogLaws.{live_none}
use Rattle.fcg_book.proofs.log.Log.new.Goals as goal

pub invariant_of-result : goal.invariant_of-result
invariant_of-result c = record {
  live = λ q. ap (λ (es : List (List ℕ × ℕ)). lookup (is_same q) es) c.new-2.ensures.empty ∙ sym (ap (λ (es : Log). live es q) c.new.ensures.items ∙ live_none q);
  entry_room = omega arith;
  live_room = omega arith;
}
