use Rattle.std.proofs.Common.{take, drop, sym, ◌∙◌}
use Rattle.std.proofs.lemmas.List.{take-append-drop}
use Rattle.fcg_top.proofs.text_buffer.write_more.Goals as goal

pub returns-in-Err : goal.returns-in-Err
returns-in-Err g c =
    let err = c.in-Err.ensures in
    record {
      front = take err.failed.0 c.args.bytes.now;
      rest = drop err.failed.0 c.args.bytes.now;
      parts = sym (take-append-drop err.failed.0 c.args.bytes.now);
      took = err.failed.1;
      whole = λ e. (let bad = e in cc);
      cause = λ e f. err.cause.failed;
      stays = λ e. (let bad = sym e ∙ c.if-failed.false in cc);
      later = err.cause.later;
      aside = err.aside;
    }
