use Rattle.std.proofs.Common.{subst, sym}
use Rattle.std.specs.Prelude.{Option}
use Rattle.fcg_book.specs.Entries.{LogEntry, entry_of}
use Rattle.fcg_book.specs.Office.{state_of}
use Rattle.fcg_book.specs.Told.{told_of, SubmitsTold}
use Rattle.fcg_commands.specs.declared.outcome.Outcome.{Outcome}
use Rattle.fcg_commands.specs.Once.{submit_over, store_of, EndsOver}
use Rattle.fcg_commands.proofs.CommandLaws.{state_with, submitted, opening_refused}
use Rattle.fcg_commands.proofs.submit.submit_over.Goals as goal

pub returns-in-Ok-clause-told : goal.returns-in-Ok-clause-told
returns-in-Ok-clause-told g c =
    let e = entry_of c.args.request c.args.command in
    let log = c.in-Ok.office.log in
    let new = c.submit-answer.new.self in
    let ot = g.K.Keeper.told c.args.keeper in
    let os = g.K.Keeper.script c.args.keeper in
    let mt = g.K.Keeper.told c.in-Ok.office.keeper in
    let ms = g.K.Keeper.script c.in-Ok.office.keeper in
    let nt = g.K.Keeper.told new.keeper in
    let ns = g.K.Keeper.script new.keeper in
    let told = subst (λ (d : Option LogEntry). SubmitsTold (told_of (state_with log d) mt ms) e c.submit-answer.result (told_of (state_of new) nt ns)) c.in-Ok.ensures.anew.1 c.submit-answer.ensures.told in
    rw (c.into_keeper.ensures, c.submit_outcome-outcome.ensures, c.len.ensures, c.requires) (submitted e log (state_of new) c.submit-answer.result ot mt nt os ms ns c.in-Ok.ensures.records c.in-Ok.ensures.script told)

pub returns-in-Err-clause-told : goal.returns-in-Err-clause-told
returns-in-Err-clause-told g c =
    let keeper = c.in-Err.field-0.keeper in
    let ot = g.K.Keeper.told c.args.keeper in
    let os = g.K.Keeper.script c.args.keeper in
    let nt = g.K.Keeper.told keeper in
    let ns = g.K.Keeper.script keeper in
    let do_over = submit_over (entry_of c.args.request c.args.command) in
    let refused = opening_refused do_over ot nt os ns c.in-Err.field-0.refusal c.in-Err.ensures.records c.in-Err.ensures.script in
    subst (λ (o : Outcome). EndsOver do_over (store_of ot os) o (store_of nt ns)) (sym c.opening_outcome.ensures) refused
