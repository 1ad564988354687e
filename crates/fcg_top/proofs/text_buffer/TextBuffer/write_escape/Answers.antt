use Rattle.std.proofs.Common.{[], ◌∷◌, sym, ◌∙◌}
use Rattle.fcg_views.specs.Escape.{escaped}
use Rattle.fcg_top.proofs.Buffered.{Sends-as, escaped-standing, escaped-other}
use Rattle.fcg_top.proofs.text_buffer.TextBuffer.write_escape.Goals as goal

pub returns-then-may_stand : goal.returns-then-may_stand
returns-then-may_stand g c =
    let stands = sym c.may_stand.ensures ∙ c.if-may_stand.true in
    Sends-as _ _ _ _ _ _ (sym (escaped-standing c.args.place c.args.byte stands)) c.write_through.ensures

pub returns-else-may_stand : goal.returns-else-may_stand
returns-else-may_stand g c =
    let other = sym c.may_stand.ensures ∙ c.if-may_stand.false in
    Sends-as _ _ _ _ _ (escaped c.args.place (c.args.byte ∷ [])) (rw (c.digit.ensures, c.digit-else-may_stand.ensures) (sym (escaped-other c.args.place c.args.byte other))) c.write_through-else-may_stand.ensures
