use Rattle.std.proofs.Common.{ℕ, ◌+◌, [], ◌∷◌, ◌++◌, length, true, false, refl, subst, sym, ap, ◌∙◌}
use Rattle.std.specs.Prelude.{Option, Some, None, Ok, Err, IfSome}
use Rattle.fcg_keeper.specs.declared.record.Record.{Record}
use Rattle.fcg_keeper.specs.declared.keeper.KeeperRefusal.{KeeperRefusal}
use Rattle.fcg_keeper.specs.declared.keeper.KeeperRefusal.TheVariants as keeper_refusals
use Rattle.fcg_keeper.specs.Records.{Appends}
use Rattle.fcg_book.specs.Entries.{LogEntry}
use Rattle.fcg_book.specs.Entries.{command_of, entry_of}
use Rattle.fcg_book.specs.Log.{Log, record_of}
use Rattle.fcg_book.specs.Internal.Steps as office
use Rattle.fcg_book.specs.Internal.Register.{Waiting, doubted}
use Rattle.fcg_book.specs.Office.{Matches}
use Rattle.std.proofs.lemmas.Result.{err_from_is_err_and}
use Rattle.fcg_keeper.specs.Script.{Takes}
use Rattle.fcg_book.specs.Told.{told_of}
use Rattle.fcg_book.specs.Internal.Steps.{EntersTold}
use Rattle.fcg_book.specs.declared.answer.Refused.TheVariants.{NoMemory}
use Rattle.fcg_book.proofs.ToldLaws as told_laws
use Rattle.fcg_book.proofs.ToldLaws.{room_wants}
use Rattle.fcg_book.proofs.OfficeLaws.{may_append, enterable, append_adds, append_wants, append_doubts, office_after, office_doubts, no_doubt, same_state, state_with, entered_as}
use Rattle.fcg_book.proofs.office.Office.enter.Goals as goal

pub append-requires : goal.append-requires
append-requires g c =
    let none = rw (← c.self.view_is) at c.requires.sure in
    let len_is = c.len-entry.ensures.len ∙ ap (λ (l : Log). length l) c.log.ensures in
    let seq_is = ap (λ (w : Waiting). w.seq) c.in_ok-pending.ensures ∙ ap (λ (n : ℕ). n + 1) len_is in
    record { last = may_append (g.K.Keeper.told c.self.inside.keeper) (g.K.Keeper.tells_crash c.self.inside.keeper) c.self.inside.register.entries (doubted c.self.inside.doubt) c.row.result.now.seq none (ap (λ (r : Record). r.seq) c.row.ensures ∙ seq_is) c.self.invariant.records }

pub add-requires-clause-fresh : goal.add-requires-clause-fresh
add-requires-clause-fresh g c =
    let may = enterable c.self.inside.register.entries (record { request = c.args.request; command = command_of c.args.command }) (rw (← c.self.view_is) at c.requires.decided) in
    rw (c.in_ok-reserve.ensures.entries, c.in_ok-pending.ensures) may.fresh

pub add-requires-clause-bytes : goal.add-requires-clause-bytes
add-requires-clause-bytes g c =
    let may = enterable c.self.inside.register.entries (record { request = c.args.request; command = command_of c.args.command }) (rw (← c.self.view_is) at c.requires.decided) in
    rw (c.in_ok-reserve.ensures.entries, c.in_ok-pending.ensures) may.small

pub invariant_of-self-in-Ok : goal.invariant_of-self-in-Ok
invariant_of-self-in-Ok g c =
    let log = c.self.inside.register.entries in
    let e : LogEntry = record { request = c.args.request; command = command_of c.args.command } in
    let old = g.K.Keeper.told c.self.inside.keeper in
    let was = g.K.Keeper.tells_crash c.self.inside.keeper in
    let new = g.K.Keeper.told c.append.new.self in
    let is = g.K.Keeper.tells_crash c.append.new.self in
    let none = rw (← c.self.view_is) at c.requires.sure in
    let len_is = c.len-entry.ensures.len ∙ ap (λ (l : Log). length l) c.log.ensures in
    let seq_is = ap (λ (w : Waiting). w.seq) c.in_ok-pending.ensures ∙ ap (λ (n : ℕ). n + 1) len_is in
    let entry_is = ap (λ (w : Waiting). w.entry) c.in_ok-pending.ensures in
    let row_is = c.row.ensures ∙ ap (λ (n : ℕ). record_of n c.in_ok-pending.pending.entry) seq_is ∙ ap (λ (x : LogEntry). record_of (length log + 1) x) entry_is in
    let entered = c.add.ensures.entries ∙ ap (λ (l : Log). l ++ c.in_ok-pending.pending.entry ∷ []) c.in_ok-reserve.ensures.entries ∙ ap (λ (x : LogEntry). log ++ x ∷ []) entry_is in
    let inv = subst (λ (d : Option LogEntry). IfSome old (Matches was log d)) none c.self.invariant.records in
    let added = subst (λ (r : Record). Appends is old r (Ok tt) new) row_is c.in-Ok.ensures.records in
    office_after new is log c.add.new.self.entries e c.add.new.self.spare c.self.inside.doubt none entered (append_adds log e was is old new inv added)

pub invariant_of-self-in-Err-Failed : goal.invariant_of-self-in-Err-Failed
invariant_of-self-in-Err-Failed g c =
    let log = c.self.inside.register.entries in
    let e : LogEntry = record { request = c.args.request; command = command_of c.args.command } in
    let old = g.K.Keeper.told c.self.inside.keeper in
    let was = g.K.Keeper.tells_crash c.self.inside.keeper in
    let new = g.K.Keeper.told c.append.new.self in
    let is = g.K.Keeper.tells_crash c.append.new.self in
    let none = rw (← c.self.view_is) at c.requires.sure in
    let may = enterable log e (rw (← c.self.view_is) at c.requires.decided) in
    let len_is = c.len-entry.ensures.len ∙ ap (λ (l : Log). length l) c.log.ensures in
    let seq_is = ap (λ (w : Waiting). w.seq) c.in_ok-pending.ensures ∙ ap (λ (n : ℕ). n + 1) len_is in
    let entry_is = ap (λ (w : Waiting). w.entry) c.in_ok-pending.ensures in
    let row_is = c.row.ensures ∙ ap (λ (n : ℕ). record_of n c.in_ok-pending.pending.entry) seq_is ∙ ap (λ (x : LogEntry). record_of (length log + 1) x) entry_is in
    let inv = subst (λ (d : Option LogEntry). IfSome old (Matches was log d)) none c.self.invariant.records in
    let failed = subst (λ (r : Record). Appends is old r (Err keeper_refusals.Failed) new) row_is (subst (λ (x : KeeperRefusal). Appends is old c.row.result.now (Err x) new) c.in-Err-Failed.field-0-is c.in-Err-Failed.ensures.records) in
    office_doubts new is log c.reserve.new.self.entries e c.reserve.new.self.spare c.in_ok-pending.pending c.in_ok-reserve.ensures.entries entry_is seq_is may c.in_ok-reserve.ensures.ok (append_doubts log e was is old new inv failed)

pub returns-in-Ok-clause-enters : goal.returns-in-Ok-clause-enters
returns-in-Ok-clause-enters g c =
    let log = c.self.inside.register.entries in
    let none = rw (← c.self.view_is) at c.requires.sure in
    let len_is = c.len-entry.ensures.len ∙ ap (λ (l : Log). length l) c.log.ensures in
    let entry_is = ap (λ (w : Waiting). w.entry) c.in_ok-pending.ensures in
    let entered = c.add.ensures.entries ∙ ap (λ (l : Log). l ++ c.in_ok-pending.pending.entry ∷ []) c.in_ok-reserve.ensures.entries ∙ ap (λ (x : LogEntry). log ++ x ∷ []) entry_is in
    rw (← c.self.view_is) (true, office.Appends (ap (λ (n : ℕ). entered_as (n + 1)) len_is) (same_state _ _ _ _ entered none))

pub returns-in-Err-Failed-clause-enters : goal.returns-in-Err-Failed-clause-enters
returns-in-Err-Failed-clause-enters g c =
    let entry_is = ap (λ (w : Waiting). w.entry) c.in_ok-pending.ensures in
    rw (← c.self.view_is) (false, office.Appends refl (same_state _ _ _ _ c.in_ok-reserve.ensures.entries (ap (λ (x : LogEntry). Some x) entry_is)))

pub invariant_of-self : goal.invariant_of-self
invariant_of-self g c =
    let none = rw (← c.self.view_is) at c.requires.sure in
    record {
      records = subst (λ (l : Log). IfSome (g.K.Keeper.told c.self.inside.keeper) (Matches (g.K.Keeper.tells_crash c.self.inside.keeper) l (doubted c.self.inside.doubt))) (sym c.in_err-reserve.ensures.entries) c.self.invariant.records;
      can_enter = no_doubt _ c.self.inside.doubt none;
    }

pub returns-in_err-reserve-clause-told : goal.returns-in_err-reserve-clause-told
returns-in_err-reserve-clause-told g c =
    let log = c.self.inside.register.entries in
    let doubt = doubted c.self.inside.doubt in
    let e = entry_of c.args.request c.args.command in
    let told = g.K.Keeper.told c.self.inside.keeper in
    let script = g.K.Keeper.script c.self.inside.keeper in
    let p = err_from_is_err_and c.from_residual-in_err-reserve.result c.from_residual-in_err-reserve.ensures.1 in
    rw (← c.self.view_is, p.1, p.2) (subst (λ (l : Log). EntersTold (told_of (state_with log doubt) told script) e (Err NoMemory) (told_of (state_with l doubt) told script)) (sym c.in_err-reserve.ensures.entries) (room_wants (state_with log doubt) e told script))

pub invariant_of-self-in-NoMemory-1 : goal.invariant_of-self-in-NoMemory-1
invariant_of-self-in-NoMemory-1 g c =
    let log = c.self.inside.register.entries in
    let e : LogEntry = entry_of c.args.request c.args.command in
    let old = g.K.Keeper.told c.self.inside.keeper in
    let was = g.K.Keeper.tells_crash c.self.inside.keeper in
    let new = g.K.Keeper.told c.append.new.self in
    let is = g.K.Keeper.tells_crash c.append.new.self in
    let none = rw (← c.self.view_is) at c.requires.sure in
    let len_is = c.len-entry.ensures.len ∙ ap (λ (l : Log). length l) c.log.ensures in
    let seq_is = ap (λ (w : Waiting). w.seq) c.in_ok-pending.ensures ∙ ap (λ (n : ℕ). n + 1) len_is in
    let entry_is = ap (λ (w : Waiting). w.entry) c.in_ok-pending.ensures in
    let row_is = c.row.ensures ∙ ap (λ (n : ℕ). record_of n c.in_ok-pending.pending.entry) seq_is ∙ ap (λ (x : LogEntry). record_of (length log + 1) x) entry_is in
    let inv = subst (λ (d : Option LogEntry). IfSome old (Matches was log d)) none c.self.invariant.records in
    let wants = subst (λ (r : Record). Appends is old r (Err keeper_refusals.NoMemory) new) row_is (subst (λ (x : KeeperRefusal). Appends is old c.row.result.now (Err x) new) c.in-Err-NoMemory.field-0-is c.in-Err-NoMemory.ensures.records) in
    let m = append_wants log e was is old new inv wants in
    record {
      records = subst (λ (l : Log). IfSome new (Matches is l (doubted c.self.inside.doubt))) (sym c.in_ok-reserve.ensures.entries) (subst (λ (x : Option LogEntry). IfSome new (Matches is log x)) (sym none) m);
      can_enter = no_doubt _ c.self.inside.doubt none;
    }

pub returns-in-Err-NoMemory-clause-told : goal.returns-in-Err-NoMemory-clause-told
returns-in-Err-NoMemory-clause-told g c =
    let log = c.self.inside.register.entries in
    let e : LogEntry = entry_of c.args.request c.args.command in
    let old = g.K.Keeper.told c.self.inside.keeper in
    let new = g.K.Keeper.told c.append.new.self in
    let before = g.K.Keeper.script c.self.inside.keeper in
    let after = g.K.Keeper.script c.append.new.self in
    let is = g.K.Keeper.tells_crash c.append.new.self in
    let none = rw (← c.self.view_is) at c.requires.sure in
    let len_is = c.len-entry.ensures.len ∙ ap (λ (l : Log). length l) c.log.ensures in
    let seq_is = ap (λ (w : Waiting). w.seq) c.in_ok-pending.ensures ∙ ap (λ (n : ℕ). n + 1) len_is in
    let entry_is = ap (λ (w : Waiting). w.entry) c.in_ok-pending.ensures in
    let row_is = c.row.ensures ∙ ap (λ (n : ℕ). record_of n c.in_ok-pending.pending.entry) seq_is ∙ ap (λ (x : LogEntry). record_of (length log + 1) x) entry_is in
    let wants = subst (λ (r : Record). Appends is old r (Err keeper_refusals.NoMemory) new) row_is (subst (λ (x : KeeperRefusal). Appends is old c.row.result.now (Err x) new) c.in-Err-NoMemory.field-0-is c.in-Err-NoMemory.ensures.records) in
    let takes = subst (λ (x : KeeperRefusal). Takes {T = Unit {0}} before (Err x) after) c.in-Err-NoMemory.field-0-is c.in-Err-NoMemory.ensures.script in
    let m = told_laws.append_wants log e old new before after is wants takes in
    rw (← c.self.view_is) (subst (λ (d : Option LogEntry). EntersTold (told_of (state_with log d) old before) e (Err NoMemory) (told_of (state_with c.reserve.new.self.entries d) new after)) (sym none) (subst (λ (l : Log). EntersTold (told_of (state_with log None) old before) e (Err NoMemory) (told_of (state_with l None) new after)) (sym c.in_ok-reserve.ensures.entries) m))
