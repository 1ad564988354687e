use Rattle.std.proofs.Common.{◌≡◌, ◌+◌, ◌++◌, ◌∷◌, [], length, sym, ap, ◌∙◌, append_assoc, arith}
use Rattle.fcg_keeper.specs.declared.record.Record.{Record}
use Rattle.fcg_book.specs.Entries.{LogEntry}
use Rattle.fcg_book.specs.Spelling.{entry_text}
use Rattle.fcg_book.specs.Log.{Log, bytes_of}
use Rattle.fcg_book.specs.Internal.Register.{Register}
use Rattle.fcg_book.proofs.LogLaws.{bytes_push}
use Rattle.fcg_book.proofs.register.Register.add.Goals as goal

pub invariant_of-self : goal.invariant_of-self
invariant_of-self c =
    let e = c.args.pending.entry in
    let log = c.self.inside.log.entries in
    let entries = c.enter_log.ensures.entries ∙ ap (λ (x : LogEntry). log ++ x ∷ []) c.into_entries-entry.ensures.entry in
    let copies = c.in-Ok.ensures.items ∙ ap (λ (x : LogEntry). c.self.inside.fresh.items ++ x ∷ []) c.into_entries-entry.ensures.copy in
    let size : length c.as_slice.result.now ≡ length (entry_text e) = ap length (c.as_slice.ensures ∙ ap (λ (r : Record). r.body) c.row.ensures) in
    let bytes : c.self.inside.bytes + length c.as_slice.result.now ≡ bytes_of log + length (entry_text e) = (let b = c.self.invariant.bytes_are in omega (arith, b, size)) in
    record {
      numbered = c.enter_log.ensures.numbered;
      given = c.self.invariant.given;
      last = entries ∙ ap (λ (es : Log). es ++ e ∷ []) c.self.invariant.last ∙ append_assoc c.self.invariant.given c.self.inside.fresh.items (e ∷ []) ∙ ap (λ (es : Log). c.self.invariant.given ++ es) (sym copies);
      bytes_are = bytes ∙ sym (ap bytes_of entries ∙ bytes_push log e);
      small = (let r = c.requires.bytes in let v = ap (λ (es : Log). bytes_of es) (ap (λ (s : Register). s.entries) c.self.view_is) in omega (arith, r, v, bytes));
      has_room = (let a = c.self.invariant.has_room in let b = c.in-Ok.ensures.len in let k = c.in-Ok.ensures.capacity in let s = c.enter_log.ensures.spare in omega (arith, a, b, k, s));
      number_room = (let a = c.self.invariant.number_room in let s = c.enter_log.ensures.spare in let n = c.enter_log.ensures.number_spare in omega (arith, a, s, n));
    }
