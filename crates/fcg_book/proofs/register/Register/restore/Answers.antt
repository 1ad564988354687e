use Rattle.std.proofs.Common.{◌≡◌, List, ◌+◌, ◌++◌, [], length, sym, ap, ◌∙◌, arith}
use Rattle.std.proofs.lemmas.List.{append-nil}
use Rattle.fcg_book.specs.Entries.{LogEntry}
use Rattle.fcg_book.specs.Spelling.{entry_text}
use Rattle.fcg_book.specs.Log.{Log, bytes_of}
use Rattle.fcg_book.specs.Internal.Register.{Register}
use Rattle.fcg_book.proofs.LogLaws.{bytes_push}
use Rattle.fcg_book.proofs.register.Register.restore.Goals as goal

pub invariant_of-self : goal.invariant_of-self
invariant_of-self c =
    let e = c.args.entry in
    let log = c.self.inside.log.entries in
    let entries = c.enter_log.ensures.entries in
    let same : log ≡ c.args.self.now.entries = ap (λ (s : Register). s.entries) c.self.view_is ∙ c.in_ok-reserve.ensures.entries in
    let none : c.self.inside.fresh.items ≡ [] = ap (λ (s : Register). s.fresh) c.self.view_is ∙ c.in_ok-reserve.ensures.fresh ∙ c.requires.given in
    let bytes : c.self.inside.bytes + c.args.size ≡ bytes_of log + length (entry_text e) = (let b = c.self.invariant.bytes_are in let s = c.requires.size in omega (arith, b, s)) in
    record {
      numbered = c.enter_log.ensures.numbered;
      given = c.enter_log.new.log.entries;
      last = sym (append-nil c.enter_log.new.log.entries) ∙ ap (λ (es : List LogEntry). c.enter_log.new.log.entries ++ es) (sym none);
      bytes_are = bytes ∙ sym (ap bytes_of entries ∙ bytes_push log e);
      small = (let r = c.requires.bytes in let b = c.self.invariant.bytes_are in let v = ap (λ (es : Log). bytes_of es) same in omega (arith, r, b, v));
      has_room = (let a = c.self.invariant.has_room in let s = c.enter_log.ensures.spare in omega (arith, a, s));
      number_room = (let a = c.self.invariant.number_room in let s = c.enter_log.ensures.spare in let n = c.enter_log.ensures.number_spare in omega (arith, a, s, n));
    }
