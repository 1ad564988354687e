-- What an office does over a keeper that tells its records and its script: each step, and the whole from its steps.
use Rattle.std.proofs.Common.{◌≡◌, ◌+◌, Bool, List, [], ◌∷◌, ◌++◌, length, refl, sym, ap, ◌∙◌, append_assoc}
use Rattle.std.proofs.lemmas.List.{append-nil}
use Rattle.std.specs.Prelude.{Option, Some, None, Result, Ok, Err}
use Rattle.fcg_keeper.specs.declared.record.Record.{Record}
use Rattle.fcg_keeper.specs.declared.keeper.KeeperRefusal.{KeeperRefusal}
use Rattle.fcg_keeper.specs.declared.keeper.KeeperRefusal.TheVariants as keeper_refusals
use Rattle.fcg_keeper.specs.declared.memory.FailMode.{FailMode}
use Rattle.fcg_keeper.specs.Records.{Loads, Appends}
use Rattle.fcg_keeper.specs.Script.{Script, Follows, Takes, AppendsAsScripted}
use Rattle.fcg_book.specs.Entries.{LogEntry}
use Rattle.fcg_book.specs.Log.{Log}
use Rattle.fcg_book.specs.Accept.{OfficeState, sure, next_record, settled, decided, refused_by}
use Rattle.fcg_book.specs.Told.{Told, told_of, load_told, after_load, TellsSubmit, TellsAnswer, TellsBefore, TellsSettled, SubmitsTold}
use Rattle.fcg_book.specs.Office.{GainsFresh}
use Rattle.fcg_book.specs.Internal.Steps as steps
use Rattle.fcg_book.specs.Internal.Steps.{TellsSettle, SettlesTold, TellsEnter, EntersTold}
use Rattle.fcg_book.specs.declared.answer.Accepted.{Accepted}
use Rattle.fcg_book.specs.declared.answer.Accepted.TheVariants.{Entered}
use Rattle.fcg_book.specs.declared.answer.Refused.{Refused}
use Rattle.fcg_book.specs.declared.answer.Refused.TheVariants.{NoMemory, KeeperFailed}

abbrev state_with : Log → Option LogEntry → OfficeState
state_with log doubt = record { log = log; doubt = doubt }

abbrev told_at : OfficeState → List Record → Script → Told
told_at state store script = record { office = state; store = store; script = script }

-- ---- what a call says of its item
pub passes : {T : Type 0} (item : Option FailMode) (x : T) → Follows item (Ok x) → item ≡ None
passes None x f = refl
passes (Some mode) x f = absurd f

pub fails : (T : Type 0) (item : Option FailMode) → Follows {T = T} item (Err keeper_refusals.Failed) → (mode : FailMode) × (item ≡ Some mode)
fails T None f = absurd f
fails T (Some mode) f = (mode, refl)

-- ---- step 1
pub sure_settles : (log : Log) (doubt : Option LogEntry) (told : Option (List Record)) (script : Option Script) → doubt ≡ None → SettlesTold (told_of (state_with log doubt) told script) (Ok tt) (told_of (state_with log doubt) told script)
sure_settles log (Some e) told script none = absurd cc
sure_settles log None None script none = tt
sure_settles log None (Some rs) None none = tt
sure_settles log None (Some rs) (Some script) none = (told_at (sure log) rs script, refl, steps.TellsSettled refl refl refl)

module _ (log : Log) (e : LogEntry) (ot nt : Option (List Record)) (os ns : Option Script) where
  abbrev doubting : OfficeState
  doubting = state_with log (Some e)

  pub load_settles : (s : OfficeState) (out : List Record) → Loads ot (length log + 1) (Ok out) nt → Takes os (Ok out) ns → settled doubting (Some out) ≡ Ok s → SettlesTold (told_of doubting ot os) (Ok tt) (told_of s nt ns)
  load_settles s out l t is = by nt ns l t
    where
      by : (nt : Option (List Record)) (ns : Option Script) → Loads ot (length log + 1) (Ok out) nt → Takes os (Ok out) ns → SettlesTold (told_of doubting ot os) (Ok tt) (told_of s nt ns)
      by None ns l t = tt
      by (Some rs) None l t = tt
      by (Some rs) (Some rest) l t = (
        told_at doubting rs t.0,
        rw (l.0, t.1) refl,
        steps.TellsSettled refl
            (ap (λ (item : Option FailMode). settled doubting (load_told item (length log + 1) rs)) (passes (t.0 0) out t.3) ∙ ap (λ (o : List Record). settled doubting (Some o)) (sym l.1) ∙ is)
            (ap (λ (k : Script). told_at s rs k) t.2),
      )

  pub load_refuses : (r : Refused) (out : List Record) → Loads ot (length log + 1) (Ok out) nt → Takes os (Ok out) ns → settled doubting (Some out) ≡ Err r → SettlesTold (told_of doubting ot os) (Err r) (told_of doubting nt ns)
  load_refuses r out l t is = by nt ns l t
    where
      by : (nt : Option (List Record)) (ns : Option Script) → Loads ot (length log + 1) (Ok out) nt → Takes os (Ok out) ns → SettlesTold (told_of doubting ot os) (Err r) (told_of doubting nt ns)
      by None ns l t = tt
      by (Some rs) None l t = tt
      by (Some rs) (Some rest) l t = (
        told_at doubting rs t.0,
        rw (l.0, t.1) refl,
        steps.TellsRefusal r refl
            (ap (λ (item : Option FailMode). settled doubting (load_told item (length log + 1) rs)) (passes (t.0 0) out t.3) ∙ ap (λ (o : List Record). settled doubting (Some o)) (sym l.1) ∙ is)
            (ap (λ (k : Script). told_at doubting rs k) t.2),
      )

  pub load_fails : Loads ot (length log + 1) (Err keeper_refusals.Failed) nt → Takes {T = List Record} os (Err keeper_refusals.Failed) ns → SettlesTold (told_of doubting ot os) (Err KeeperFailed) (told_of doubting nt ns)
  load_fails l t = by nt ns l t
    where
      by : (nt : Option (List Record)) (ns : Option Script) → Loads ot (length log + 1) (Err keeper_refusals.Failed) nt → Takes {T = List Record} os (Err keeper_refusals.Failed) ns → SettlesTold (told_of doubting ot os) (Err KeeperFailed) (told_of doubting nt ns)
      by None ns l t = tt
      by (Some rs) None l t = tt
      by (Some rs) (Some rest) l t = (
        told_at doubting rs t.0,
        rw (l.0, t.1) refl,
        steps.TellsRefusal KeeperFailed refl
            (ap (λ (item : Option FailMode). settled doubting (load_told item (length log + 1) rs)) (fails (List Record) (t.0 0) t.3).1)
            (ap (λ (k : Script). told_at doubting rs k) t.2),
      )

  pub load_wants : Loads ot (length log + 1) (Err keeper_refusals.NoMemory) nt → Takes {T = List Record} os (Err keeper_refusals.NoMemory) ns → SettlesTold (told_of doubting ot os) (Err NoMemory) (told_of doubting nt ns)
  load_wants l t = by nt ns l t
    where
      by : (nt : Option (List Record)) (ns : Option Script) → Loads ot (length log + 1) (Err keeper_refusals.NoMemory) nt → Takes {T = List Record} os (Err keeper_refusals.NoMemory) ns → SettlesTold (told_of doubting ot os) (Err NoMemory) (told_of doubting nt ns)
      by None ns l t = tt
      by (Some rs) None l t = tt
      by (Some rs) (Some rest) l t = (told_at doubting rs t.0, rw (l.0, t.1) refl, steps.TellsWant refl refl refl)

  pub load_errs : (refusal : KeeperRefusal) (r : Refused) → r ≡ refused_by refusal → Loads ot (length log + 1) (Err refusal) nt → Takes {T = List Record} os (Err refusal) ns → SettlesTold (told_of doubting ot os) (Err r) (told_of doubting nt ns)
  load_errs keeper_refusals.NoMemory r is l t = rw is (load_wants l t)
  load_errs keeper_refusals.Failed r is l t = rw is (load_fails l t)

  -- ---- steps 6 and 7
  pub append_enters : (known : Bool) → Appends known ot (next_record log e) (Ok tt) nt → Takes {T = Unit {0}} os (Ok tt) ns → EntersTold (told_of (sure log) ot os) e (Ok (Entered (length log + 1))) (told_of (sure (log ++ e ∷ [])) nt ns)
  append_enters known a t = by nt ns a t
    where
      by : (nt : Option (List Record)) (ns : Option Script) → Appends known ot (next_record log e) (Ok tt) nt → Takes {T = Unit {0}} os (Ok tt) ns → EntersTold (told_of (sure log) ot os) e (Ok (Entered (length log + 1))) (told_of (sure (log ++ e ∷ [])) nt ns)
      by None ns a t = tt
      by (Some rs) None a t = tt
      by (Some rs) (Some rest) a t = (told_at (sure log) a.0 t.0, rw (a.1, t.1) refl, steps.TellsAppend (rw (passes {T = Unit {0}} (t.0 0) (tt {0}) t.3, a.2, t.2) refl))

  pub append_fails : (known : Bool) → Appends known ot (next_record log e) (Err keeper_refusals.Failed) nt → Takes {T = Unit {0}} os (Err keeper_refusals.Failed) ns → AppendsAsScripted os ot (next_record log e) (Err keeper_refusals.Failed) nt → EntersTold (told_of (sure log) ot os) e (Err KeeperFailed) (told_of doubting nt ns)
  append_fails known a t d = by nt ns a t d
    where
      by : (nt : Option (List Record)) (ns : Option Script) → Appends known ot (next_record log e) (Err keeper_refusals.Failed) nt → Takes {T = Unit {0}} os (Err keeper_refusals.Failed) ns → AppendsAsScripted os ot (next_record log e) (Err keeper_refusals.Failed) nt → EntersTold (told_of (sure log) ot os) e (Err KeeperFailed) (told_of doubting nt ns)
      by None ns a t d = tt
      by (Some rs) None a t d = tt
      by (Some rs) (Some rest) a t d =
          let item = fails (Unit {0}) (t.0 0) t.3 in
          let here = rw (t.1, a.1, item.1) at d in
          (told_at (sure log) a.0 t.0, rw (a.1, t.1) refl, steps.TellsAppend (rw (item.1, here, t.2) refl))

  pub append_wants : (known : Bool) → Appends known ot (next_record log e) (Err keeper_refusals.NoMemory) nt → Takes {T = Unit {0}} os (Err keeper_refusals.NoMemory) ns → EntersTold (told_of (sure log) ot os) e (Err NoMemory) (told_of (sure log) nt ns)
  append_wants known a t = by nt ns a t
    where
      by : (nt : Option (List Record)) (ns : Option Script) → Appends known ot (next_record log e) (Err keeper_refusals.NoMemory) nt → Takes {T = Unit {0}} os (Err keeper_refusals.NoMemory) ns → EntersTold (told_of (sure log) ot os) e (Err NoMemory) (told_of (sure log) nt ns)
      by None ns a t = tt
      by (Some rs) None a t = tt
      by (Some rs) (Some rest) a t = (told_at (sure log) a.0 t.0, rw (a.1, t.1) refl, steps.TellsWantOfRoom refl refl a.2)

pub room_wants : (s : OfficeState) (e : LogEntry) (told : Option (List Record)) (script : Option Script) → EntersTold (told_of s told script) e (Err NoMemory) (told_of s told script)
room_wants s e None script = tt
room_wants s e (Some rs) None = tt
room_wants s e (Some rs) (Some script) = (told_at s rs script, refl, steps.TellsWantOfRoom refl refl refl)

-- ---- the whole
module _ (e : LogEntry) (old : Option Told) where
  pub refuses_first : (r : Refused) (mid : Option Told) → SettlesTold old (Err r) mid → SubmitsTold old e (Err r) mid
  refuses_first r None h = tt
  refuses_first r (Some after) (before, is, steps.TellsSettled bad s a) = absurd cc
  refuses_first r (Some after) (before, is, steps.TellsRefusal q same s a) = (before, is, (let back : q ≡ r = cc in TellsAnswer (rw (s, a, back) refl)))
  refuses_first r (Some after) (before, is, steps.TellsWant want o s) = (before, is, TellsBefore (ap (λ (x : Result (Unit {0}) Refused). passed_on x) want) o s)
    where
      passed_on : Result (Unit {0}) Refused → Result Accepted Refused
      passed_on (Ok x) = Err NoMemory
      passed_on (Err q) = Err q

  module _ (s : OfficeState) where
    pub decides : (a : Accepted) (told : Option (List Record)) (script : Option Script) → SettlesTold old (Ok tt) (told_of s told script) → decided s.log e ≡ Ok (Some a) → SubmitsTold old e (Ok a) (told_of s told script)
    decides a None script h is = tt
    decides a (Some rs) None h is = tt
    decides a (Some rs) (Some script) (before, at, steps.TellsSettled ok st af) is = (before, at, TellsAnswer (rw (st, is, af) refl))
    decides a (Some rs) (Some script) (before, at, steps.TellsRefusal q bad st af) is = absurd cc
    decides a (Some rs) (Some script) (before, at, steps.TellsWant bad o st) is = absurd cc

    pub refuses : (r : Refused) (told : Option (List Record)) (script : Option Script) → SettlesTold old (Ok tt) (told_of s told script) → decided s.log e ≡ Err r → SubmitsTold old e (Err r) (told_of s told script)
    refuses r None script h is = tt
    refuses r (Some rs) None h is = tt
    refuses r (Some rs) (Some script) (before, at, steps.TellsSettled ok st af) is = (before, at, TellsAnswer (rw (st, is, af) refl))
    refuses r (Some rs) (Some script) (before, at, steps.TellsRefusal q bad st af) is = absurd cc
    refuses r (Some rs) (Some script) (before, at, steps.TellsWant bad o st) is = absurd cc

    pub enters : (result : Result Accepted Refused) (new : Option Told) (told : Option (List Record)) (script : Option Script) → SettlesTold old (Ok tt) (told_of s told script) → decided s.log e ≡ Ok None → EntersTold (told_of s told script) e result new → SubmitsTold old e result new
    enters result None told script h is r = tt
    enters result (Some after) None script h is (b, bad, r) = absurd cc
    enters result (Some after) (Some rs) None h is (b, bad, r) = absurd cc
    enters result (Some after) (Some rs) (Some script) (before, at, steps.TellsRefusal q bad st af) is r = absurd cc
    enters result (Some after) (Some rs) (Some script) (before, at, steps.TellsWant bad o st) is r = absurd cc
    enters result (Some after) (Some rs) (Some script) (before, at, steps.TellsSettled ok st af) is (b, same, r) = (before, at, by r)
      where
        begun : told_at s rs script ≡ b
        begun = cc

        store : rs ≡ before.store
        store = ap (λ (t : Told). t.store) af

        rest : script ≡ after_load before.office.doubt before.script
        rest = ap (λ (t : Told). t.script) af

        by : TellsEnter b e result after → TellsSubmit before e result after
        by (steps.TellsAppend a) = (let here = rw (← begun) at a in TellsAnswer (rw (st, is, ← store, ← rest) here))
        by (steps.TellsWantOfRoom want o t) = TellsSettled want (st ∙ ap (λ (x : OfficeState). ok_of x) (sym (o ∙ sym (ap (λ (t : Told). t.office) begun)))) (t ∙ sym (ap (λ (t : Told). t.store) begun) ∙ store)
          where
            ok_of : OfficeState → Result OfficeState Refused
            ok_of x = Ok x

-- ---- what the log gains is to be given
abbrev Entries : Type 0
Entries = List LogEntry

pub gains_none : (log fresh : Entries) → GainsFresh log fresh log fresh
gains_none log fresh = ([], sym (append-nil log), sym (append-nil fresh))

pub gains_one : (log fresh new_log new_fresh : Entries) (e : LogEntry) → new_log ≡ log ++ e ∷ [] → new_fresh ≡ fresh ++ e ∷ [] → GainsFresh log fresh new_log new_fresh
gains_one log fresh new_log new_fresh e l f = (e ∷ [], l, f)

pub gains_both : (log fresh mid_log mid_fresh new_log new_fresh : Entries) → GainsFresh log fresh mid_log mid_fresh → GainsFresh mid_log mid_fresh new_log new_fresh → GainsFresh log fresh new_log new_fresh
gains_both log fresh mid_log mid_fresh new_log new_fresh (a, l, f) (b, m, g) = (a ++ b, m ∙ ap (λ (x : Entries). x ++ b) l ∙ append_assoc log a b, g ∙ ap (λ (x : Entries). x ++ b) f ∙ append_assoc fresh a b)

-- what a decision says
abbrev pub answer_as : Option Accepted → Result (Option Accepted) Refused
answer_as a = Ok a
