use Rattle.std.proofs.Common.{List, ◌++◌, sym, ap, ◌∙◌, append_assoc, arith}
use Rattle.std.specs.Prelude.{option_to_list}
use Rattle.fcg_book.specs.Entries.{LogEntry}
use Rattle.fcg_book.proofs.register.Register.give.Goals as goal

pub invariant_of-self : goal.invariant_of-self
invariant_of-self c = record {
  numbered = c.self.invariant.numbered;
  given = c.self.invariant.given ++ option_to_list c.pop_front.result;
  last = c.self.invariant.last ∙ ap (λ (es : List LogEntry). c.self.invariant.given ++ es) c.pop_front.ensures.items ∙ sym (append_assoc c.self.invariant.given (option_to_list c.pop_front.result) c.pop_front.new.self.items);
  bytes_are = c.self.invariant.bytes_are;
  small = c.self.invariant.small;
  has_room = (let a = c.self.invariant.has_room in let b = c.pop_front.ensures.capacity in let l = c.pop_front.ensures.len in omega (arith, a, b, l));
  number_room = c.self.invariant.number_room;
}
