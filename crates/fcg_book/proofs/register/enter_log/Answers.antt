use Rattle.std.proofs.Common.{ℕ, ◌+◌, length, cond, sym, ap, ◌∙◌}
use Rattle.std.specs.Prelude.{Option, Some, nat_eq}
use Rattle.fcg_book.specs.Log.{Log, number_of}
use Rattle.fcg_book.proofs.LogLaws.{number_push}
use Rattle.fcg_book.proofs.register.enter_log.Goals as goal

pub returns-clause-numbered : goal.returns-clause-numbered
returns-clause-numbered c = λ request.
    let log = c.args.log.now.entries in
    c.in-Ok.ensures.updates.0 request
    ∙ ap (λ (o : Option ℕ). cond (nat_eq c.request.result request) (Some (c.len-number.result + 1)) o) (c.requires.numbered request)
    ∙ ap (λ (n : ℕ). cond (nat_eq c.request.result request) (Some (n + 1)) (number_of log request)) c.len-number.ensures.len
    ∙ ap (λ (k : ℕ). cond (nat_eq k request) (Some (length log + 1)) (number_of log request)) c.request.ensures
    ∙ number_push log c.args.entry request c.requires.fresh
    ∙ ap (λ (es : Log). number_of es request) (sym c.push.ensures.entries)
