use Rattle.std.proofs.Common.{sym, ap, ◌∙◌}
use Rattle.std.proofs.lemmas.Result.{err_from_is_err_and}
use Rattle.fcg_book.specs.Entries.{entry_of}
use Rattle.fcg_book.specs.Office.{state_of}
use Rattle.fcg_book.specs.Told.{told_of}
use Rattle.fcg_book.proofs.ToldLaws.{refuses_first, refuses, decides, enters, answer_as}
use Rattle.fcg_book.proofs.office.Office.submit.Goals as goal

pub returns-in_err-settle-clause-told : goal.returns-in_err-settle-clause-told
returns-in_err-settle-clause-told g c =
    let old = told_of (state_of c.args.self.now) (g.K.Keeper.told c.args.self.now.keeper) (g.K.Keeper.script c.args.self.now.keeper) in
    let mid = told_of (state_of c.settle.new.self) (g.K.Keeper.told c.settle.new.self.keeper) (g.K.Keeper.script c.settle.new.self.keeper) in
    let p = err_from_is_err_and c.from_residual.result c.from_residual.ensures.1 in
    rw (p.1, p.2) (refuses_first (entry_of c.args.request c.args.command) old c.in_err-settle.field-0.0 mid c.in_err-settle.ensures.told)

pub returns-in_err-answer-clause-told : goal.returns-in_err-answer-clause-told
returns-in_err-answer-clause-told g c =
    let old = told_of (state_of c.args.self.now) (g.K.Keeper.told c.args.self.now.keeper) (g.K.Keeper.script c.args.self.now.keeper) in
    let p = err_from_is_err_and c.from_residual-in_err-answer.result c.from_residual-in_err-answer.ensures.1 in
    rw (p.1, p.2) (refuses (entry_of c.args.request c.args.command) old (state_of c.settle.new.self) c.in_err-answer.field-0.0 (g.K.Keeper.told c.settle.new.self.keeper) (g.K.Keeper.script c.settle.new.self.keeper) c.in_ok-settle.ensures.told (rw (← c.self.view_is) (sym c.in_err-answer.ensures.value)))

pub returns-in-Some-clause-told : goal.returns-in-Some-clause-told
returns-in-Some-clause-told g c =
    let old = told_of (state_of c.args.self.now) (g.K.Keeper.told c.args.self.now.keeper) (g.K.Keeper.script c.args.self.now.keeper) in
    decides (entry_of c.args.request c.args.command) old (state_of c.settle.new.self) c.in-Some.answer (g.K.Keeper.told c.settle.new.self.keeper) (g.K.Keeper.script c.settle.new.self.keeper) c.in_ok-settle.ensures.told (rw (← c.self.view_is) (sym c.in_ok-answer.ensures.value ∙ ap answer_as c.in-Some.is))

pub returns-in-None-clause-told : goal.returns-in-None-clause-told
returns-in-None-clause-told g c =
    let old = told_of (state_of c.args.self.now) (g.K.Keeper.told c.args.self.now.keeper) (g.K.Keeper.script c.args.self.now.keeper) in
    enters (entry_of c.args.request c.args.command) old (state_of c.settle.new.self) c.enter.result _ (g.K.Keeper.told c.settle.new.self.keeper) (g.K.Keeper.script c.settle.new.self.keeper) c.in_ok-settle.ensures.told (rw (← c.self.view_is) (sym c.in_ok-answer.ensures.value ∙ ap answer_as c.in-None.is)) c.enter.ensures.told
