use Rattle.std.proofs.Common.{ℕ, List, [], sym, ap, ◌∙◌, arith}
use Rattle.std.specs.Prelude.{nat_eq}
use Rattle.std.specs.Map.{lookup}
use Rattle.fcg_book.specs.Internal.Index.{LogState}
use Rattle.fcg_book.specs.Log.{number_of, bytes_of}
use Rattle.fcg_book.proofs.LogLaws.{number_none}
use Rattle.fcg_book.proofs.register.Register.new.Goals as goal

pub invariant_of-result : goal.invariant_of-result
invariant_of-result c = record {
  numbered = λ r. ap (λ (es : List (ℕ × ℕ)). lookup (nat_eq r) es) c.new-2.ensures.empty ∙ sym (ap (λ (l : LogState). number_of l.entries r) c.new.ensures ∙ number_none r);
  given = [];
  last = ap (λ (l : LogState). l.entries) c.new.ensures ∙ sym c.new-3.ensures.items;
  bytes_are = sym (ap (λ (l : LogState). bytes_of l.entries) c.new.ensures);
  small = omega arith;
  has_room = (let z = ap (λ (l : LogState). l.spare) c.new.ensures in omega (arith, z));
  number_room = (let z = ap (λ (l : LogState). l.spare) c.new.ensures in omega (arith, z));
}
