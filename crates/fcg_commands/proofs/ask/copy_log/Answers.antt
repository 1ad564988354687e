use Rattle.std.proofs.Common.{◌++◌, ◌∷◌, [], ap, ◌∙◌}
use Rattle.fcg_book.specs.Books.{Books}
use Rattle.fcg_book.specs.Log.{Log}
use Rattle.fcg_commands.proofs.CommandLaws.{log_more}
use Rattle.fcg_commands.proofs.ask.copy_log.Goals as goal

pub loop-number-preserved : goal.loop-number-preserved
loop-number-preserved g c =
    ap (λ (b : Books _). b.log) c.post.ensures
    ∙ ap (λ (l : Log). l ++ c.in_ok-entry.field-0 ∷ []) (ap (λ (b : Books _). b.log) c.in_ok-reserve.ensures.ok ∙ c.loop-number.invariant)
    ∙ log_more c.args.office.now.log c.loop-number.number c.in_ok-entry.field-0 c.in_ok-entry.ensures
