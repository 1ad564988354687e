use Rattle.std.proofs.Common.{ℕ, List, [], ◌∷◌, ◌++◌, refl, subst, sym, ap, ◌∙◌}
use Rattle.std.specs.Prelude.{Option, Some, None, Ok, Err, IfSome}
use Rattle.fcg_keeper.specs.declared.record.Record.{Record}
use Rattle.fcg_keeper.specs.Records.{Loads}
use Rattle.fcg_book.specs.Entries.{LogEntry}
use Rattle.fcg_book.specs.Log.{record_of}
use Rattle.fcg_book.specs.Accept.{OfficeState, settled, next_record, first_other}
use Rattle.fcg_book.specs.Internal.Steps as office
use Rattle.fcg_book.specs.Internal.Steps.{FoundAs}
use Rattle.fcg_book.specs.Internal.Register.{Waiting, CanEnter, IsOffice, doubted}
use Rattle.fcg_book.specs.Office.{Matches}
use Rattle.fcg_book.specs.declared.office.Found.{Found}
use Rattle.fcg_book.specs.declared.answer.Refused.TheVariants.{StoreDiffers}
use Rattle.fcg_book.specs.Told.{told_of}
use Rattle.fcg_book.specs.Internal.Steps.{SettlesTold}
use Rattle.fcg_book.proofs.ToldLaws.{load_settles, load_refuses, load_errs}
use Rattle.fcg_book.proofs.OfficeLaws.{load_keeps, load_forgets, load_finds, never_differs, none_some, office_after, settles_none, settles_record, settles_other, settles_err, nothing_is, some_are, same_state, state_with, settled_as}
use Rattle.fcg_book.proofs.office.Office.settle.Goals as goal

pub invariant_of-self-in-Nothing-1 : goal.invariant_of-self-in-Nothing-1
invariant_of-self-in-Nothing-1 g c =
    let log = c.self.inside.register.entries in
    let e = c.in-Some.pending.entry in
    let old = g.K.Keeper.told c.self.inside.keeper in
    let was = g.K.Keeper.tells_crash c.self.inside.keeper in
    let new = g.K.Keeper.told c.load.new.self in
    let is = g.K.Keeper.tells_crash c.load.new.self in
    let doubt = sym c.take.ensures.value ∙ c.in-Some.is in
    let inv = subst (λ (d : Option Waiting). IfSome old (Matches was log (doubted d))) doubt c.self.invariant.records in
    let can = subst (λ (d : Option Waiting). IfSome d (CanEnter log c.self.inside.register.spare)) doubt c.self.invariant.can_enter in
    let from = ap (λ (r : Record). r.seq) c.row.ensures ∙ can.number in
    let loads = subst (λ (n : ℕ). Loads old n (Ok c.in-Ok.loaded) new) from c.in-Ok.ensures.records in
    let row_is = c.row-in-Ok.ensures ∙ ap (λ (n : ℕ). record_of n e) can.number in
    let at = subst (λ (r : Record). FoundAs c.in-Ok.loaded (first_other r c.in-Ok.loaded) c.find_record.result) row_is c.find_record.ensures in
    let found = subst (λ (f : Found). FoundAs c.in-Ok.loaded (first_other (next_record log e) c.in-Ok.loaded) f) c.in-Nothing.is at in
    let m = load_forgets log e was is c.in-Ok.loaded old new (nothing_is c.in-Ok.loaded (first_other (next_record log e) c.in-Ok.loaded) found) inv loads in
    subst (λ (d : Option Waiting). IsOffice new is log c.self.inside.register.spare d) (sym c.take.ensures.after) (record { records = m; can_enter = tt })

pub invariant_of-self-in-Record : goal.invariant_of-self-in-Record
invariant_of-self-in-Record g c =
    let log = c.self.inside.register.entries in
    let e = c.in-Some.pending.entry in
    let old = g.K.Keeper.told c.self.inside.keeper in
    let was = g.K.Keeper.tells_crash c.self.inside.keeper in
    let new = g.K.Keeper.told c.load.new.self in
    let is = g.K.Keeper.tells_crash c.load.new.self in
    let doubt = sym c.take.ensures.value ∙ c.in-Some.is in
    let inv = subst (λ (d : Option Waiting). IfSome old (Matches was log (doubted d))) doubt c.self.invariant.records in
    let can = subst (λ (d : Option Waiting). IfSome d (CanEnter log c.self.inside.register.spare)) doubt c.self.invariant.can_enter in
    let from = ap (λ (r : Record). r.seq) c.row.ensures ∙ can.number in
    let loads = subst (λ (n : ℕ). Loads old n (Ok c.in-Ok.loaded) new) from c.in-Ok.ensures.records in
    let row_is = c.row-in-Ok.ensures ∙ ap (λ (n : ℕ). record_of n e) can.number in
    let at = subst (λ (r : Record). FoundAs c.in-Ok.loaded (first_other r c.in-Ok.loaded) c.find_record.result) row_is c.find_record.ensures in
    let found = subst (λ (f : Found). FoundAs c.in-Ok.loaded (first_other (next_record log e) c.in-Ok.loaded) f) c.in-Record.is at in
    let some = some_are c.in-Ok.loaded (first_other (next_record log e) c.in-Ok.loaded) found in
    let m = load_finds log e was is c.in-Ok.loaded some.0 some.1 old new some.2 inv loads in
    office_after new is log c.add.new.self.entries e c.add.new.self.spare c.take.new.self (ap doubted c.take.ensures.after) c.add.ensures.entries m

pub invariant_of-self-in-Other : goal.invariant_of-self-in-Other
invariant_of-self-in-Other g c =
    let log = c.self.inside.register.entries in
    let e = c.in-Some.pending.entry in
    let old = g.K.Keeper.told c.self.inside.keeper in
    let was = g.K.Keeper.tells_crash c.self.inside.keeper in
    let new = g.K.Keeper.told c.load.new.self in
    let is = g.K.Keeper.tells_crash c.load.new.self in
    let doubt = sym c.take.ensures.value ∙ c.in-Some.is in
    let inv = subst (λ (d : Option Waiting). IfSome old (Matches was log (doubted d))) doubt c.self.invariant.records in
    let can = subst (λ (d : Option Waiting). IfSome d (CanEnter log c.self.inside.register.spare)) doubt c.self.invariant.can_enter in
    record { records = load_keeps log e was is c.row.result.now.seq old new (Ok c.in-Ok.loaded) (λ t. (c.in-Ok.ensures.crash t).0) inv c.in-Ok.ensures.records; can_enter = can }

pub returns-in-Nothing-clause-settles : goal.returns-in-Nothing-clause-settles
returns-in-Nothing-clause-settles g c =
    let log = c.self.inside.register.entries in
    let e = c.in-Some.pending.entry in
    let doubt = sym c.take.ensures.value ∙ c.in-Some.is in
    let can = subst (λ (d : Option Waiting). IfSome d (CanEnter log c.self.inside.register.spare)) doubt c.self.invariant.can_enter in
    let row_is = c.row-in-Ok.ensures ∙ ap (λ (n : ℕ). record_of n e) can.number in
    let at = subst (λ (r : Record). FoundAs c.in-Ok.loaded (first_other r c.in-Ok.loaded) c.find_record.result) row_is c.find_record.ensures in
    let begun = ap (λ (d : Option Waiting). settled (state_with log (doubted d)) (Some c.in-Ok.loaded)) doubt in
    let found = subst (λ (f : Found). FoundAs c.in-Ok.loaded (first_other (next_record log e) c.in-Ok.loaded) f) c.in-Nothing.is at in
    rw (← c.self.view_is) (Some c.in-Ok.loaded, office.Settled refl (begun ∙ settles_none log e c.in-Ok.loaded found ∙ ap settled_as (same_state log log None (doubted c.take.new.self) refl (sym (ap doubted c.take.ensures.after)))))

pub returns-in-Record-clause-settles : goal.returns-in-Record-clause-settles
returns-in-Record-clause-settles g c =
    let log = c.self.inside.register.entries in
    let e = c.in-Some.pending.entry in
    let doubt = sym c.take.ensures.value ∙ c.in-Some.is in
    let can = subst (λ (d : Option Waiting). IfSome d (CanEnter log c.self.inside.register.spare)) doubt c.self.invariant.can_enter in
    let row_is = c.row-in-Ok.ensures ∙ ap (λ (n : ℕ). record_of n e) can.number in
    let at = subst (λ (r : Record). FoundAs c.in-Ok.loaded (first_other r c.in-Ok.loaded) c.find_record.result) row_is c.find_record.ensures in
    let begun = ap (λ (d : Option Waiting). settled (state_with log (doubted d)) (Some c.in-Ok.loaded)) doubt in
    let found = subst (λ (f : Found). FoundAs c.in-Ok.loaded (first_other (next_record log e) c.in-Ok.loaded) f) c.in-Record.is at in
    rw (← c.self.view_is) (Some c.in-Ok.loaded, office.Settled refl (begun ∙ settles_record log e c.in-Ok.loaded found ∙ ap settled_as (same_state (log ++ e ∷ []) c.add.new.self.entries None (doubted c.take.new.self) (sym c.add.ensures.entries) (sym (ap doubted c.take.ensures.after)))))

pub returns-in-Other-clause-settles : goal.returns-in-Other-clause-settles
returns-in-Other-clause-settles g c =
    let log = c.self.inside.register.entries in
    let e = c.in-Some.pending.entry in
    let doubt = sym c.take.ensures.value ∙ c.in-Some.is in
    let can = subst (λ (d : Option Waiting). IfSome d (CanEnter log c.self.inside.register.spare)) doubt c.self.invariant.can_enter in
    let row_is = c.row-in-Ok.ensures ∙ ap (λ (n : ℕ). record_of n e) can.number in
    let at = subst (λ (r : Record). FoundAs c.in-Ok.loaded (first_other r c.in-Ok.loaded) c.find_record.result) row_is c.find_record.ensures in
    let begun = ap (λ (d : Option Waiting). settled (state_with log (doubted d)) (Some c.in-Ok.loaded)) doubt in
    let found = subst (λ (f : Found). FoundAs c.in-Ok.loaded (first_other (next_record log e) c.in-Ok.loaded) f) c.in-Other.is at in
    rw (← c.self.view_is) (Some c.in-Ok.loaded, office.Refuses (StoreDiffers c.in-Other.found) refl (begun ∙ settles_other log e c.in-Ok.loaded c.in-Other.found found) (same_state log log (Some e) (doubted c.self.inside.doubt) refl (sym (ap doubted doubt))))

pub returns-in-Err-clause-settles : goal.returns-in-Err-clause-settles
returns-in-Err-clause-settles g c =
    let log = c.self.inside.register.entries in
    let e = c.in-Some.pending.entry in
    let doubt = sym c.take.ensures.value ∙ c.in-Some.is in
    rw (← c.self.view_is) (subst (λ (s : OfficeState). (x : Option (List Record)) × office.Settles s x (Err c.into.result) (state_with log (Some e))) (same_state log log (Some e) (doubted c.self.inside.doubt) refl (sym (ap doubted doubt))) (settles_err log e (state_with log (Some e)) c.in-Err.refusal c.into.result c.into.ensures refl))

pub returns-in-Record-clause-told : goal.returns-in-Record-clause-told
returns-in-Record-clause-told g c =
    let log = c.self.inside.register.entries in
    let e = c.in-Some.pending.entry in
    let old = g.K.Keeper.told c.self.inside.keeper in
    let new = g.K.Keeper.told c.load.new.self in
    let before = g.K.Keeper.script c.self.inside.keeper in
    let after = g.K.Keeper.script c.load.new.self in
    let doubt = sym c.take.ensures.value ∙ c.in-Some.is in
    let can = subst (λ (d : Option Waiting). IfSome d (CanEnter log c.self.inside.register.spare)) doubt c.self.invariant.can_enter in
    let from = ap (λ (r : Record). r.seq) c.row.ensures ∙ can.number in
    let loads = subst (λ (n : ℕ). Loads old n (Ok c.in-Ok.loaded) new) from c.in-Ok.ensures.records in
    let row_is = c.row-in-Ok.ensures ∙ ap (λ (n : ℕ). record_of n e) can.number in
    let at = subst (λ (r : Record). FoundAs c.in-Ok.loaded (first_other r c.in-Ok.loaded) c.find_record.result) row_is c.find_record.ensures in
    let found = subst (λ (f : Found). FoundAs c.in-Ok.loaded (first_other (next_record log e) c.in-Ok.loaded) f) c.in-Record.is at in
    let state = state_with c.add.new.self.entries (doubted c.take.new.self) in
    let is = settles_record log e c.in-Ok.loaded found ∙ ap settled_as (same_state (log ++ e ∷ []) c.add.new.self.entries None (doubted c.take.new.self) (sym c.add.ensures.entries) (sym (ap doubted c.take.ensures.after))) in
    rw (← c.self.view_is) (subst (λ (d : Option LogEntry). SettlesTold (told_of (state_with log d) old before) (Ok tt) (told_of state new after)) (sym (ap doubted doubt)) (load_settles log e old new before after state c.in-Ok.loaded loads c.in-Ok.ensures.script is))

pub returns-in-Record-clause-gains : goal.returns-in-Record-clause-gains
returns-in-Record-clause-gains g c = rw (← c.self.view_is) (c.in-Some.pending.entry ∷ [], c.add.ensures.entries, c.add.ensures.fresh)

pub returns-in-Other-clause-told : goal.returns-in-Other-clause-told
returns-in-Other-clause-told g c =
    let log = c.self.inside.register.entries in
    let e = c.in-Some.pending.entry in
    let old = g.K.Keeper.told c.self.inside.keeper in
    let new = g.K.Keeper.told c.load.new.self in
    let before = g.K.Keeper.script c.self.inside.keeper in
    let after = g.K.Keeper.script c.load.new.self in
    let doubt = sym c.take.ensures.value ∙ c.in-Some.is in
    let can = subst (λ (d : Option Waiting). IfSome d (CanEnter log c.self.inside.register.spare)) doubt c.self.invariant.can_enter in
    let from = ap (λ (r : Record). r.seq) c.row.ensures ∙ can.number in
    let loads = subst (λ (n : ℕ). Loads old n (Ok c.in-Ok.loaded) new) from c.in-Ok.ensures.records in
    let row_is = c.row-in-Ok.ensures ∙ ap (λ (n : ℕ). record_of n e) can.number in
    let at = subst (λ (r : Record). FoundAs c.in-Ok.loaded (first_other r c.in-Ok.loaded) c.find_record.result) row_is c.find_record.ensures in
    let found = subst (λ (f : Found). FoundAs c.in-Ok.loaded (first_other (next_record log e) c.in-Ok.loaded) f) c.in-Other.is at in
    let state = state_with log (Some e) in
    rw (← c.self.view_is) (subst (λ (d : Option LogEntry). SettlesTold (told_of (state_with log d) old before) (Err (StoreDiffers c.in-Other.found)) (told_of state new after)) (sym (ap doubted doubt)) (load_refuses log e old new before after (StoreDiffers c.in-Other.found) c.in-Ok.loaded loads c.in-Ok.ensures.script (settles_other log e c.in-Ok.loaded c.in-Other.found found)))

pub returns-in-Other-clause-agrees : goal.returns-in-Other-clause-agrees
returns-in-Other-clause-agrees g c =
    let log = c.self.inside.register.entries in
    let e = c.in-Some.pending.entry in
    let old = g.K.Keeper.told c.self.inside.keeper in
    let was = g.K.Keeper.tells_crash c.self.inside.keeper in
    let new = g.K.Keeper.told c.load.new.self in
    let doubt = sym c.take.ensures.value ∙ c.in-Some.is in
    let inv = subst (λ (d : Option Waiting). IfSome old (Matches was log (doubted d))) doubt c.self.invariant.records in
    let can = subst (λ (d : Option Waiting). IfSome d (CanEnter log c.self.inside.register.spare)) doubt c.self.invariant.can_enter in
    let from = ap (λ (r : Record). r.seq) c.row.ensures ∙ can.number in
    let loads = subst (λ (n : ℕ). Loads old n (Ok c.in-Ok.loaded) new) from c.in-Ok.ensures.records in
    let row_is = c.row-in-Ok.ensures ∙ ap (λ (n : ℕ). record_of n e) can.number in
    let at = subst (λ (r : Record). FoundAs c.in-Ok.loaded (first_other r c.in-Ok.loaded) c.find_record.result) row_is c.find_record.ensures in
    let found = subst (λ (f : Found). FoundAs c.in-Ok.loaded (first_other (next_record log e) c.in-Ok.loaded) f) c.in-Other.is at in
    none_some _ new (never_differs log e was c.in-Ok.loaded c.in-Other.found old new inv loads found)

pub returns-in-Err-clause-told : goal.returns-in-Err-clause-told
returns-in-Err-clause-told g c =
    let log = c.self.inside.register.entries in
    let e = c.in-Some.pending.entry in
    let old = g.K.Keeper.told c.self.inside.keeper in
    let new = g.K.Keeper.told c.load.new.self in
    let before = g.K.Keeper.script c.self.inside.keeper in
    let after = g.K.Keeper.script c.load.new.self in
    let doubt = sym c.take.ensures.value ∙ c.in-Some.is in
    let can = subst (λ (d : Option Waiting). IfSome d (CanEnter log c.self.inside.register.spare)) doubt c.self.invariant.can_enter in
    let from = ap (λ (r : Record). r.seq) c.row.ensures ∙ can.number in
    let loads = subst (λ (n : ℕ). Loads old n (Err c.in-Err.refusal) new) from c.in-Err.ensures.records in
    let state = state_with log (Some e) in
    rw (← c.self.view_is) (subst (λ (d : Option LogEntry). SettlesTold (told_of (state_with log d) old before) (Err c.into.result) (told_of state new after)) (sym (ap doubted doubt)) (load_errs log e old new before after c.in-Err.refusal c.into.result c.into.ensures loads c.in-Err.ensures.script))
